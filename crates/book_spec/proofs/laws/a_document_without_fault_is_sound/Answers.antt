use Rattle.book_spec.proofs.DocumentSound.{document_sound}
use Rattle.book_spec.proofs.laws.a_document_without_fault_is_sound.Goals as goal

pub returns : goal.returns
returns c = document_sound
