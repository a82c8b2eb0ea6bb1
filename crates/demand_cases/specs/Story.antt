-- A volume to which each theorem of demand 2 applies in turn: every call is accepted (`Cases`, `accepted`).
use Rattle.std.specs.Prelude.{List, [], ◌∷◌, replicate}
use Rattle.format.specs.Bytes.{Bytes}
use Rattle.calls.specs.Format.{image_formatted}
use Rattle.calls.specs.Create.{image_created}
use Rattle.calls.specs.Append.{image_appended}
use Rattle.calls.specs.Rename.{image_renamed}
use Rattle.calls.specs.Unlink.{image_unlinked}
use Rattle.calls.specs.Collect.{image_collected}
use Rattle.case_volumes.specs.Volumes.{two}

-- "/d", "/d/a" and "/d/b"
abbrev pub directory : Bytes
directory = 0x2f ∷ 0x64 ∷ []

abbrev pub file_in_it : Bytes
file_in_it = 0x2f ∷ 0x64 ∷ 0x2f ∷ 0x61 ∷ []

abbrev pub file_renamed : Bytes
file_renamed = 0x2f ∷ 0x64 ∷ 0x2f ∷ 0x62 ∷ []

abbrev pub text : Bytes
text = 0x6f ∷ 0x6b ∷ []

-- the image before, and after each call: format, a directory, a file in it, two bytes appended, the file renamed, the directory unlinked, a
-- collection
unfoldable pub image₀ : Bytes
image₀ = replicate 320 0

unfoldable pub image₁ : Bytes
image₁ = image_formatted image₀ two

unfoldable pub image₂ : Bytes
image₂ = image_created image₁ two [] directory 0

unfoldable pub image₃ : Bytes
image₃ = image_created image₂ two [] file_in_it 1

unfoldable pub image₄ : Bytes
image₄ = image_appended image₃ two [] file_in_it text

unfoldable pub image₅ : Bytes
image₅ = image_renamed image₄ two [] file_in_it file_renamed

unfoldable pub image₆ : Bytes
image₆ = image_unlinked image₅ two [] directory

unfoldable pub image₇ : Bytes
image₇ = image_collected image₆ two
