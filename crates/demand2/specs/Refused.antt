-- Refused calls. Demand 1: "A refused call changes no byte of the image, of an output buffer or of a file handle"; document 01: "A refused
-- answer's other numbers are 0."
use Rattle.std.specs.Prelude.{ℕ, ◌≡◌, ◌≢◌, List}
use Rattle.format.specs.Bytes.{Bytes}
use Rattle.calls.specs.Attempt.{Attempt}
use Rattle.calls.specs.Format.{format_number, image_formatted}
use Rattle.calls.specs.Report.{report_of}
use Rattle.calls.specs.AreaReport.{area_report_of}
use Rattle.calls.specs.Lookup.{lookup_of, open_of}
use Rattle.calls.specs.Read.{Given, read_given, read_answer, buffer_after, handle_after}
use Rattle.calls.specs.Create.{create_of, image_created}
use Rattle.calls.specs.Append.{append_of, image_appended}
use Rattle.calls.specs.Unlink.{unlink_of, image_unlinked}
use Rattle.calls.specs.Rename.{rename_of, image_renamed}
use Rattle.calls.specs.Overwrite.{overwrite_of, image_overwritten}
use Rattle.calls.specs.Collect.{collect_of, image_collected}
use Rattle.calls.specs.Tree.{attempt_tree, tree_answer, buffer_with}
use Rattle.calls.specs.declared.Descriptor.{Descriptor}
use Rattle.calls.specs.declared.Handle.{Handle}
use Rattle.calls.specs.declared.Report.{Report}
use Rattle.calls.specs.declared.AreaReport.{AreaReport}

-- a refused read: zeros, and buffer and handle as they were
pub record RefusedRead (g : Given) (h : Handle) (buffer : Bytes) : Type 0 where
  pub answer : read_answer g ≡ record { number = (read_answer g).number; given = 0; headers = 0 }
  pub same_buffer : buffer_after g buffer ≡ buffer
  pub same_handle : handle_after g h ≡ h

-- T-07: a refused tree: length 0, and the buffer as it was
pub record RefusedTree (t : Attempt Bytes) (buffer : Bytes) : Type 0 where
  pub answer : tree_answer t ≡ record { number = (tree_answer t).number; length = 0 }
  pub same_buffer : buffer_with buffer t ≡ buffer

-- the other answers: refused, they have zeros, spelled out here a second time
abbrev pub zeros : ℕ → Report
zeros n = record { number = n; inodes = 0; live = 0; stretches = 0; skipped = 0; first_offset = 0; first_length = 0 }

abbrev pub area_zeros : ℕ → AreaReport
area_zeros n = record { number = n; kind = 0; id = 0; count = 0; records = 0; stretches = 0; skipped = 0; free = 0; offset = 0; length = 0 }

-- Each call, where its number is not 0. The reports, lookup, open, read and the tree change no image: they give none.
pub record RefusedCalls (image : Bytes) (ds : List Descriptor) : Type 0 where
  pub format : format_number image ds ≢ 0 → image_formatted image ds ≡ image
  pub report : (report_of image ds).number ≢ 0
      → report_of image ds ≡ zeros (report_of image ds).number
  pub area_report_lem : (i k : ℕ) → (area_report_of image ds i k).number ≢ 0
      → area_report_of image ds i k ≡ area_zeros (area_report_of image ds i k).number
  pub lookup : (base path : Bytes) → (lookup_of image ds base path).number ≢ 0
      → lookup_of image ds base path ≡ record { number = (lookup_of image ds base path).number; id = 0; kind = 0 }
  pub opened : (base path : Bytes) → (open_of image ds base path).number ≢ 0
      → open_of image ds base path ≡ record { number = (open_of image ds base path).number; id = 0; position = 0 }
  pub read : (id position room : ℕ) → (read_answer (read_given image ds id position room)).number ≢ 0
      → (h : Handle) (buffer : Bytes) → RefusedRead (read_given image ds id position room) h buffer
  pub tree : (tree_answer (attempt_tree image ds)).number ≢ 0 → (buffer : Bytes) → RefusedTree (attempt_tree image ds) buffer
  pub create : (base path : Bytes) (kind : ℕ) → (create_of image ds base path kind).number ≢ 0
      → (image_created image ds base path kind ≡ image)
      × (create_of image ds base path kind ≡ record { number = (create_of image ds base path kind).number; id = 0 })
  pub append : (base path text : Bytes) → append_of image ds base path text ≢ 0 → image_appended image ds base path text ≡ image
  pub unlink : (base path : Bytes) → unlink_of image ds base path ≢ 0 → image_unlinked image ds base path ≡ image
  pub rename : (base old new : Bytes) → rename_of image ds base old new ≢ 0 → image_renamed image ds base old new ≡ image
  pub overwrite : (base path : Bytes) (offset : ℕ) (text : Bytes) → overwrite_of image ds base path offset text ≢ 0
      → image_overwritten image ds base path offset text ≡ image
  pub collect : collect_of image ds ≢ 0 → image_collected image ds ≡ image
