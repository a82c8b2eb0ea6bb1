-- Format. Document 01: "erases the described areas to FF, writes headers with count 0. The longest, first among equals, is scratch; the
-- others get ids 0, 1, ... in order. The root record (sequence 0) goes to the first file area."
use Prim.Native.Nat.{ℕ, suc, ◌+◌, ◌-◌}
use Rattle.std.proofs.Math.Path.{◌≡◌}
use Rattle.std.specs.Prelude.{cond, eqb}
use Rattle.std.proofs.Math.Bool.{true}
use mathlib.Core.List.{List, [], ◌∷◌, ◌++◌, map, Memᴰ}
use Rattle.std.proofs.Math.ListN.{length}
use Rattle.format.specs.Bytes.{Bytes, byte_at}
use Rattle.format.specs.Ids.{root_id}
use Rattle.format.specs.AreaHeader.{area_header_size, area_id, collection_count, scratch_id}
use Rattle.format.specs.Record.{record_size}
use Rattle.format.specs.Reading.{area_clean}
use Rattle.format.specs.Encoding.{area_header}
use Rattle.format_laws.specs.Crc.{Octets}
use Rattle.volume.specs.Lists.{keep}
use Rattle.volume.specs.View.{by_bytes}
use Rattle.volume.specs.Fate.{live_ids}
use Rattle.volume.specs.Path.{good_path, path_names}
use Rattle.volume.specs.Tree.{found, absent}
use Rattle.calls.specs.Image.{erased}
use Rattle.calls.specs.Areas.{area_bytes, file_areas, scratch_areas}
use Rattle.calls.specs.Mount.{records_of, accepted_records, volume}
use Rattle.calls.specs.Mount.{mount_number}
use Rattle.calls.specs.Format.{empty_area, longest_length, root_bytes}
use Rattle.calls.specs.Lookup.{resolve}
use Rattle.calls.specs.Read.{refused, read_given}
use Rattle.calls.specs.Create.{is_root}
use Rattle.calls.specs.Collect.{is_blank}
use Rattle.calls.specs.declared.Descriptor.{Descriptor}
use Rattle.calls_laws.specs.Checks.{InArea}
use Rattle.calls_laws.specs.Unused.{upwards}

-- ---- the theorem

-- What an accepted format leaves: image' is the image afterwards
pub record AfterFormat (image image' : Bytes) (ds : List Descriptor) : Type 0 where
  pub mounts : mount_number image' ds ≡ 0
  -- the root is live, and nothing else is there
  pub records : accepted_records image' ds ≡ root_bytes ∷ []
  pub only_root : live_ids by_bytes (volume image' ds) ≡ root_id ∷ []
  pub clean : (d : Descriptor) → Memᴰ d (file_areas image' ds) → area_clean record_size (area_bytes image' d) ≡ true
  -- "The longest, first among equals, is scratch", erased: its header and then FF
  pub scratch : Descriptor
  pub scratch_is : scratch_areas image' ds ≡ scratch ∷ []
  pub equals : List Descriptor
  pub first_longest : keep (λ d. eqb d.length (longest_length ds)) ds ≡ scratch ∷ equals
  pub scratch_bytes : area_bytes image' scratch ≡ empty_area scratch.length 0 scratch_id
  pub scratch_blank : is_blank (area_bytes image' scratch) ≡ true
  -- "the others get ids 0, 1, ... in order", "headers with count 0"
  pub others : length ds ≡ suc (length (file_areas image' ds))
  pub ids : map (λ d. area_id (area_bytes image' d)) (file_areas image' ds) ≡ upwards (length (file_areas image' ds)) 0
  pub counts : (d : Descriptor) → Memᴰ d ds → collection_count (area_bytes image' d) ≡ 0
  -- "The root record (sequence 0) goes to the first file area": header, root and then FF; every other one is its header and then FF
  pub first : Descriptor
  pub rest : List Descriptor
  pub files : file_areas image' ds ≡ first ∷ rest
  pub first_bytes : area_bytes image' first
      ≡ area_header first.length 0 0 ++ (root_bytes ++ erased (first.length - (area_header_size + length root_bytes)))
  pub first_reads : records_of image' first ≡ record { place = area_header_size; bytes = root_bytes } ∷ []
  pub rest_bytes : (d : Descriptor) → Memᴰ d rest → area_bytes image' d ≡ empty_area d.length 0 (area_id (area_bytes image' d))
  pub rest_reads : (d : Descriptor) → Memᴰ d rest → records_of image' d ≡ []
  -- "/" is found, and by every other good path nothing; a read finds no file
  pub paths : (b p : Bytes) → resolve image' ds b p ≡ cond (good_path b p) (cond (is_root (path_names b p)) (found root_id) (absent 9)) (absent 8)
  pub reads : (i position room : ℕ) → read_given image' ds i position room ≡ refused (cond (eqb i root_id) 11 9)
  -- bytes outside the areas stay
  pub one_length : length image' ≡ length image
  pub outside : (i : ℕ) → ((d : Descriptor) → Memᴰ d ds → ¬ InArea d i) → byte_at image' i ≡ byte_at image i
  -- bytes stay bytes
  pub octets : Octets image → Octets image'
