-- A collection of a mounted volume is the call's.
use Rattle.std.specs.Prelude.{ℕ, ◌+◌, ◌≤◌, ◌<◌, ◌≡◌, refl, true, length, take, drop, get_or}
use Rattle.std.proofs.Common.{sym, ap, ap₂, subst, ◌∙◌, arith, length-take-le, get_or-take, get_or-drop, eq-eqb, lt-ltb, le-ltb}
use Rattle.std.proofs.Math.Option.{Option, none, some}
use mathlib.Core.List.{List, Memᴰ}
use Rattle.std.proofs.Math.Decide.{ℕ_discrete}
use Rattle.format.specs.Bytes.{Bytes}
use Rattle.calls.specs.Areas.{file_areas, scratch_areas}
use Rattle.calls.specs.Refusal.{first_refusal}
use Rattle.calls.specs.Mount.{mount_number}
use Rattle.calls.specs.Attempt.{number_of, leaves}
use Rattle.calls.specs.Collect.{source_of, collected, collect_from, collecting, collect_of, image_collected}
use Rattle.calls.specs.declared.Descriptor.{Descriptor}
use Rattle.record_places.specs.Place.{by_place, AllLie}
use Rattle.area_list.specs.Described.{area_of, described, described_at}
use Rattle.area_kinds.specs.Checks.{area_checks, mount_refused}
use Rattle.area_kinds.specs.Places.{AreasPass, areas_pass}
use Rattle.area_pass.specs.Listing.{places_in}
use Rattle.area_pass.specs.Rows.{spans_at}
use Rattle.area_pass.specs.Bridge.{placed_volume}
use Rattle.mount_state.specs.State.{starts_in, spans_in, Safe, Holds, SafePlaces, HoldsPlaces}
use Rattle.mount_state.specs.Bridge.{places_lent}
use Rattle.mount_state.specs.declared.Mounted.{Mounted}
use Rattle.collect_source.specs.Source.{area_at}
use Rattle.collect_copies.specs.Copied.{tables_of, AllRows, most_copies, copied_places, Lent}
use Rattle.collect_copies.specs.Loops.{copies_lie}
use Rattle.collect_stores.specs.Moved.{moved_into, Removable}
use Rattle.collect_stores.specs.Fits.{fits, fits_fillable}
use Rattle.call_collect.specs.Source.{copies_fit, moved_copies}

-- the places of the records, as they are lent, and the copies of an area among them
abbrev pub copies_of : Bytes → Mounted → List ℕ → List ℕ → Descriptor → List ℕ
copies_of image m tables places s =
    copied_places image s.offset s.length (take m.records places) (tables_of m.inodes m.blocks tables)

-- what `list_copies` asks
pub copies_lent : {image : Bytes} {m : Mounted} {tables places : List ℕ} → Safe image m tables → SafePlaces image m places
    → (copies : List ℕ) → length copies ≡ most_copies → Lent image (take m.records places) m.inodes m.blocks tables copies
copies_lent s p copies l = record {
  lie = (places_lent p).0;
  rows = record { long = s.long; inodes_few = s.inodes_few; blocks_few = s.blocks_few; inodes = s.inodes.usable; blocks = s.blocks.usable };
  room = l;
}

-- the file area of a row
abbrev pub file_at : List ℕ → ℕ → Descriptor
file_at tables r = area_of (get_or tables r 0) (get_or tables (spans_at + r) 0)

file_at_lem : (m : Mounted) (tables : List ℕ) (r : ℕ) → r < m.files → area_of (get_or (starts_in m tables) r 0) (get_or (spans_in m tables) r 0) ≡ file_at tables r
file_at_lem m tables r h = ap₂ area_of (get_or-take m.files tables r 0 h) (get_or-take m.files (drop spans_at tables) r 0 h ∙ get_or-drop spans_at tables r 0)

module _ {image : Bytes} {m : Mounted} {tables : List ℕ} (s : Safe image m tables) where
  files_long : length (starts_in m tables) ≡ m.files
  files_long = length-take-le m.files tables (omega (arith, s.files_few, s.long))

  row_file : (r : ℕ) → r < m.files → Memᴰ (file_at tables r) (described (starts_in m tables) (spans_in m tables))
  row_file r h =
      subst (λ (d : Descriptor). Memᴰ d (described (starts_in m tables) (spans_in m tables))) (file_at_lem m tables r h)
      (described_at (starts_in m tables) (spans_in m tables) r (omega (arith, files_long)) (omega (arith, files_long, s.fit.pairs)))

  -- its copies lie in the image, and where they fit into scratch they can be moved there
  module _ {places : List ℕ} (p : SafePlaces image m places) (r : ℕ) where
    abbrev copies : List ℕ
    copies = copies_of image m tables places (file_at tables r)

    pub area_copies_lie : AllLie image copies (length copies)
    area_copies_lie =
        copies_lie image (file_at tables r).offset (file_at tables r).length (take m.records places) (tables_of m.inodes m.blocks tables) (places_lent p).0

    pub area_removable : r < m.files → fits image m.scratch copies ≡ true → Removable image m.scratch (file_at tables r) copies
    area_removable h e =
        let at = file_at_lem m tables r h in
        record {
          small = s.fit.small;
          inside = omega (arith, s.fit.inside r (omega (arith, files_long)), ap (λ (d : Descriptor). d.offset + d.length) at);
          header = omega (arith, s.fit.long r (omega (arith, files_long)), ap (λ (d : Descriptor). d.length) at);
          fill = fits_fillable image m.scratch copies area_copies_lie s.scratch.inside (omega (arith, s.scratch.long)) e;
        }

module _ {image : Bytes} {ds : List Descriptor} {m : Mounted} {tables : List ℕ} (h : Holds image ds m tables) where
  pass : AreasPass image ds
  pass = go (ℕ_discrete (first_refusal (area_checks image ds)) 0)
    where
      go : Dec (first_refusal (area_checks image ds) ≡ 0) → AreasPass image ds
      go (yes e) = areas_pass image ds e
      go (no e) = absurd (e (sym (mount_refused image ds (first_refusal (area_checks image ds)) refl e) ∙ h.number))

  one_scratch : Memᴰ m.scratch (scratch_areas image ds)
  one_scratch = rw h.scratch (Memᴰ.head refl)

  rows : AllRows (by_place image) (placed_volume image ds) (tables_of m.inodes m.blocks tables)
  rows = record { inodes = h.inodes; blocks = h.blocks }

  -- a file area is collected: its copies fit, and so moved they are the collection
  module _ (safe : Safe image m tables) (places : List ℕ) (p : HoldsPlaces image ds m places) (r : ℕ) (among : r < m.files) where
    abbrev s : Descriptor
    s = file_at tables r

    file_area : Memᴰ s (file_areas image ds)
    file_area = subst (λ l. Memᴰ s l) h.files (row_file safe r among)

    listed : take m.records places ≡ places_in image (file_areas image ds)
    listed = p

    pub area_fits : fits image m.scratch (copies_of image m tables places s) ≡ true
    area_fits = rw listed (copies_fit image ds pass m.scratch one_scratch s file_area (tables_of m.inodes m.blocks tables) rows)

    pub area_collected : moved_into image m.scratch s (copies_of image m tables places s) ≡ collected image ds m.scratch s
    unfolding moved_into collected
    area_collected = rw (listed, moved_copies image ds pass m.scratch one_scratch s file_area (tables_of m.inodes m.blocks tables) rows)

  -- the answers, by the place of the source among the file areas
  from_source : (o : Option Descriptor) → source_of image (described (starts_in m tables) (spans_in m tables)) m.scratch ≡ o
      → (collect_of image ds ≡ number_of (collect_from m.scratch o))
      × (image_collected image ds ≡ leaves image (λ areas. collected image ds areas.0 areas.1) (collect_from m.scratch o))
  unfolding collect_of image_collected collecting
  from_source o e =
      let f : source_of image (file_areas image ds) m.scratch ≡ o = rw h.files at e in
      (rw (eq-eqb (mount_number image ds) 0 h.number, h.scratch, f), rw (eq-eqb (mount_number image ds) 0 h.number, h.scratch, f))

  module _ (safe : Safe image m tables) (r : ℕ)
      (chosen : area_at (starts_in m tables) (spans_in m tables) r ≡ source_of image (described (starts_in m tables) (spans_in m tables)) m.scratch) where
    pub source_none : m.files ≤ r → (17 ≡ collect_of image ds) × (image ≡ image_collected image ds)
    source_none g =
        let a = from_source none (sym chosen ∙ rw (le-ltb r (length (starts_in m tables)) (omega (arith, files_long safe)))) in
        (sym a.0, sym a.1)

    pub source_some : r < m.files → (n : ℕ) (x : Bytes) → n ≡ 0 → x ≡ collected image ds m.scratch (file_at tables r)
        → (n ≡ collect_of image ds) × (x ≡ image_collected image ds)
    source_some g n x z e =
        let a = from_source (some (file_at tables r)) (sym chosen ∙ rw (lt-ltb r (length (starts_in m tables)) (omega (arith, files_long safe)), file_at_lem m tables r g)) in
        (z ∙ sym a.0, e ∙ sym a.1)
