-- What is stored into an image.
use Rattle.std.specs.Prelude.{ℕ, ◌+◌, ◌++◌, length, take, drop, replicate}
use Rattle.format.specs.Bytes.{Bytes}
use Rattle.format.specs.Reading.{ERASED}

-- an image, or what a file holds, with the bytes b in the place of those from p on, where they fit; every other byte as it was
unfoldable pub put : Bytes → ℕ → Bytes → Bytes
put image p b = take p image ++ (b ++ drop (p + length b) image)

-- n erased bytes
abbrev pub erased : ℕ → Bytes
erased n = replicate n ERASED

-- the n bytes from p on
abbrev pub part : Bytes → ℕ → ℕ → Bytes
part image p n = take n (drop p image)
