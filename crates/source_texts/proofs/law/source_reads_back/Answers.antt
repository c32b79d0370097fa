use Rattle.source_texts.proofs.Reading.{reads_back}
use Rattle.source_texts.proofs.law.source_reads_back.Goals as goal

pub returns : goal.returns
returns c = reads_back
