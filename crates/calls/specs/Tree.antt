-- The tree as text. Document 02, T-07.
use Rattle.std.specs.Prelude.{List, ◌++◌, length, take, drop}
use Rattle.format.specs.Bytes.{Bytes}
use Rattle.volume.specs.View.{by_bytes}
use Rattle.volume.specs.Listing.{tree_text}
use Rattle.calls.specs.Attempt.{Attempt, goes, number_of, leaves, unless}
use Rattle.calls.specs.Mount.{volume, mount_number}
use Rattle.calls.specs.declared.Descriptor.{Descriptor}
use Rattle.calls.specs.declared.TreeAnswer.{TreeAnswer}

-- the text, after checks 1 to 7
unfoldable pub attempt_tree : Bytes → List Descriptor → Attempt Bytes
attempt_tree image ds = unless (mount_number image ds) (goes (tree_text by_bytes (volume image ds)))

-- the length is that of the whole text; "A refused answer's other numbers are 0"
unfoldable pub tree_answer : Attempt Bytes → TreeAnswer
tree_answer t = record { number = number_of t; length = leaves 0 length t }

-- as much of a text as fits, in the front of a buffer whose rest stays
unfoldable pub in_front : Bytes → Bytes → Bytes
in_front buffer text = take (length buffer) text ++ drop (length text) buffer

-- the lent buffer afterwards; a refused call changes no byte of it
unfoldable pub buffer_with : Bytes → Attempt Bytes → Bytes
buffer_with buffer t = leaves buffer (in_front buffer) t
