use Rattle.book_spec.proofs.BytesSound.{draft_of_bytes_sound}
use Rattle.book_spec.proofs.laws.a_draft_of_bytes_is_sound.Goals as goal

pub returns : goal.returns
returns c = draft_of_bytes_sound
