use Rattle.eu_base.proofs.Heads.{performed_heads, copied_heads, bound_heads}
use Rattle.eu_base.proofs.SoundSpaces.{performed_sound, copied_sound, bound_sound}
use Rattle.eu_base.proofs.law.data_spaces_stay_sound.Goals as goal

pub returns : goal.returns
returns c = record {
  performed = performed_heads;
  copied = copied_heads;
  bound = bound_heads;
  sound = performed_sound;
  sound_copied = copied_sound;
  sound_bound = bound_sound;
}
