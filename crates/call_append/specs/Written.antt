-- What became of the pieces of an append: all are stored, or none.
use Rattle.std.specs.Prelude.{ℕ, ◌≤◌, ◌<◌, ◌≡◌, cond, List, map, length}
use Rattle.std.proofs.Common.{ap, ◌∙◌, arith}
use Rattle.std.proofs.Math.Option.{none, some}
use Rattle.format.specs.Bytes.{Bytes}
use Rattle.format.specs.Record.{longest_data}
use Rattle.format.specs.BlockSize.{greatest_block}
use Rattle.format_laws.specs.BlockSize.{TwoGreatest, two_greatest}
use Rattle.calls.specs.Areas.{shortest_area}
use Rattle.calls.specs.Mount.{most_blocks}
use Rattle.calls.specs.Storing.{Space, place_all, store_all, no_place, stored_or}
use Rattle.calls.specs.Append.{block_records}
use Rattle.table_rows.specs.Parts.{part_long}
use Rattle.area_pass.specs.Rows.{spans_at}
use Rattle.mount_state.specs.State.{spans_in, Safe}
use Rattle.mount_state.specs.declared.Mounted.{Mounted}
use Rattle.write_sizes.specs.Cut.{pieces, most_pieces, shortest_of, shortest_long}
use Rattle.write_room.specs.Plan.{places_for, Planned}
use Rattle.write_pieces.specs.Plan.{ids_for, stores_of, stores_at, blocks_placed, ids_count}
use Rattle.write_pieces.specs.Laws.{Ready}
use Rattle.call_append.specs.declared.Chain.{Chain}

-- ---- the size of the pieces

abbrev pub size_for : Mounted → List ℕ → ℕ
size_for m t = greatest_block (shortest_of (spans_in m t))

module _ {image : Bytes} {m : Mounted} {t : List ℕ} (s : Safe image m t) where
  spans_long : length (spans_in m t) ≡ m.files
  spans_long = part_long spans_at m.files t (omega (arith, s.files_few, s.long))

  pub some_span : 0 < length (spans_in m t)
  some_span = omega (arith, spans_long, s.some_file)

  pub shortest_bound : shortest_area ≤ shortest_of (spans_in m t)
  shortest_bound = shortest_long shortest_area (spans_in m t) some_span (λ i h. s.fit.long i (omega (arith, s.fit.pairs)))

  pub size_law : TwoGreatest (shortest_of (spans_in m t))
  size_law = two_greatest (shortest_of (spans_in m t)) shortest_bound

-- ---- what is planned and written

-- the text is cut into these pieces, no more than one append may make and than the table of blocks has places
pub record Cut (c : Chain) (text : Bytes) : Type 0 where
  pub some_room : 1 ≤ c.size
  pub small : c.size ≤ longest_data
  pub count : c.count ≡ length (pieces c.size text)
  pub few : c.count ≤ most_pieces
  pub counted : c.count ≤ most_blocks

-- with an id and a place for each
pub record Room (c : Chain) (text : Bytes) (ids places : List ℕ) : Type 0 where
  pub cut : Cut c text
  pub ids_count : length ids ≡ c.count
  pub places_count : length places ≡ c.count

-- their records, in order
abbrev pub blocks_for : List ℕ → Chain → Bytes → List Bytes
blocks_for names c text = block_records names c.file c.last (pieces c.size text)

-- all are stored, or none and 15
pub record Written (image : Bytes) (ss : List Space) (names : List ℕ) (c : Chain) (text : Bytes) (r : ℕ) (image' : Bytes) : Type 0 where
  pub number : r ≡ cond (no_place (place_all ss (blocks_for names c text))) 15 0
  pub stored : image' ≡ stored_or image (place_all ss (blocks_for names c text))

module _ (image : Bytes) (ss : List Space) (names : List ℕ) (c : Chain) (text : Bytes) where
  told_placed : place_all ss (blocks_for names c text)
      ≡ stores_at (ids_for names (length (pieces c.size text))) c.file c.last (pieces c.size text) (places_for ss (map length (pieces c.size text)))
  told_placed = blocks_placed ss names c.file c.last (pieces c.size text)

  -- one has no place
  pub not_written : places_for ss (map length (pieces c.size text)) ≡ none → Written image ss names c text 15 image
  not_written e = record { number = rw (told_placed, e); stored = rw (told_placed, e) }

  -- each has its place, and its id
  pub written : (qs : List ℕ) → places_for ss (map length (pieces c.size text)) ≡ some qs → (is : List ℕ) → is ≡ ids_for names (length (pieces c.size text))
      → (x : Bytes) → x ≡ store_all image (stores_of is c.file c.last (pieces c.size text) qs) → Written image ss names c text 0 x
  written qs e is t x q = record { number = rw (told_placed, e); stored = q ∙ rw (told_placed, e, t) }

pub writing_ready : {image : Bytes} {c : Chain} {text : Bytes} (names qs is : List ℕ) → Cut c text → Planned (length image) (map length (pieces c.size text)) qs
    → is ≡ ids_for names (length (pieces c.size text)) → Ready c.size text is qs image
writing_ready {c = c} {text = text} names qs is k p t = record {
  some_room = k.some_room;
  small = k.small;
  ids_count = ap length t ∙ ids_count names (length (pieces c.size text));
  planned = p;
}
