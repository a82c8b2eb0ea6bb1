-- Lookup and open. Document 01, "Paths", "Calls" and refusals 8 to 11.
use Rattle.std.specs.Prelude.{ℕ, List, cond, eqb}
use Rattle.format.specs.Bytes.{Bytes}
use Rattle.format.specs.Ids.{is_directory_id}
use Rattle.volume.specs.View.{by_bytes}
use Rattle.volume.specs.Path.{good_path, path_names}
use Rattle.volume.specs.Tree.{Found, found, absent, lookup_names}
use Rattle.calls.specs.Mount.{volume, mount_number}
use Rattle.calls.specs.declared.Descriptor.{Descriptor}
use Rattle.calls.specs.declared.Lookup.{Lookup}
use Rattle.calls.specs.declared.Opened.{Opened}

-- what a path leads to: checks 1 to 7, then 8, then the walk
unfoldable pub resolve : Bytes → List Descriptor → Bytes → Bytes → Found
resolve image ds base path =
    cond (eqb (mount_number image ds) 0)
    (cond (good_path base path) (lookup_names by_bytes (volume image ds) (path_names base path)) (absent 8))
    (absent (mount_number image ds))

-- the kind of an inode, by its id: 0 a directory, 1 a file
abbrev pub kind_of : ℕ → ℕ
kind_of i = cond (is_directory_id i) 0 1

abbrev pub lookup_answer : Found → Lookup
lookup_answer (found i) = record { number = 0; id = i; kind = kind_of i }
lookup_answer (absent n) = record { number = n; id = 0; kind = 0 }

unfoldable pub lookup_of : Bytes → List Descriptor → Bytes → Bytes → Lookup
lookup_of image ds base path = lookup_answer (resolve image ds base path)

-- "open .. of a directory [is] 11"
abbrev pub file_only : Found → Found
file_only (found i) = cond (is_directory_id i) (absent 11) (found i)
file_only (absent n) = absent n

-- "Open gives position 0"
abbrev pub open_answer : Found → Opened
open_answer (found i) = record { number = 0; id = i; position = 0 }
open_answer (absent n) = record { number = n; id = 0; position = 0 }

unfoldable pub open_of : Bytes → List Descriptor → Bytes → Bytes → Opened
open_of image ds base path = open_answer (file_only (resolve image ds base path))
