use Rattle.elan_laws.proofs.TextLimits.{limited, unlimited}
use Rattle.elan_laws.proofs.depth_alone.Goals as goal

pub returns-clause-reads : goal.returns-clause-reads
returns-clause-reads c = λ p tokens t h. limited p tokens t h

pub returns-clause-all : goal.returns-clause-all
returns-clause-all c = λ p tokens t h le. unlimited p tokens t h le
