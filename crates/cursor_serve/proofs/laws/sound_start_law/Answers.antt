use Rattle.cursor_serve.proofs.SoundLemmas.{starts_sound}
use Rattle.cursor_serve.proofs.laws.sound_start_law.Goals as goal

pub returns : goal.returns
returns c = starts_sound
