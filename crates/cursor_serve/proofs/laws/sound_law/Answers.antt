use Rattle.cursor_serve.proofs.SoundLemmas.{stays_sound}
use Rattle.cursor_serve.proofs.laws.sound_law.Goals as goal

pub returns : goal.returns
returns c = stays_sound
