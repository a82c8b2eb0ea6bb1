-- The loops of an append: places taken, ids taken, and the pieces stored, one after the other.
use Prim.Native.Nat.{ℕ, suc, ◌+◌, ◌-◌, ◌≤◌, ◌<◌}
use Rattle.std.specs.Prelude.{◌≡◌, refl, get_or, set}
use Rattle.std.proofs.Math.Path.{sym, ap}
use Rattle.std.proofs.Common.{◌∙◌, take-suc-set}
use mathlib.Core.List.{List, [], ◌∷◌, ◌++◌, map, append-nil, append_assoc}
use Rattle.std.specs.Prelude.{Option, None, Some}
use Rattle.std.proofs.Math.Option.{none, some}
use native.Mathlib.Omega.{arith}
use Rattle.std.proofs.Math.Numerals.{add-one}
use Rattle.std.proofs.Math.Nat.{sub-zero}
use Rattle.std.proofs.Math.ListN.{length, take, drop, length-set, drop_of_length-le}
use Rattle.std.proofs.lemmas.List.{length-map}
use Rattle.std.proofs.Math.Seq.{take_all, drop-cons}
use Rattle.format.specs.Bytes.{Bytes}
use Rattle.format.specs.Ids.{first_block_id}
use Rattle.format.specs.Record.{block, longest_data}
use Rattle.format.specs.Encoding.{block_bytes}
use Rattle.format_laws.specs.Encoding.{block_size}
use Rattle.calls.specs.Image.{put}
use Rattle.calls.specs.Storing.{first_fit, store_all, unused_id}
use Rattle.image_laws.specs.Laws.{length_put}
use Rattle.table_words.specs.Occupancy.{bits, capacity, first_zero}
use Rattle.write_ids.specs.Window.{Marks}
use Rattle.write_ids.specs.Laws.{unused_within}
use Rattle.write_room.specs.Spaces.{spaces_of, fit_of, EndsWithin}
use Rattle.write_room.specs.Plan.{places_for, EachAt, Planned, Planning, planning_begins, planning_fails, planning_on, planning_ends}
use Rattle.write_sizes.specs.Cut.{pieces, Comes, pieces_next, pieces_none}
use Rattle.write_pieces.specs.Plan.{ids_for, stores_of}

-- ---- places

-- the pieces before the bytes that are left have their places
pub record Placing (n : ℕ) (text : Bytes) (es fs₀ qs₀ fs qs : List ℕ) (rest : Bytes) (i : ℕ) : Type 0 where
  pub count : i + length (pieces n rest) ≡ length qs₀
  pub planning : Planning (map length (pieces n text)) (map length (pieces n rest)) es fs₀ qs₀ fs qs i

pub placing_begins : (n : ℕ) (text : Bytes) (es fs qs : List ℕ) → length qs ≡ length (pieces n text) → Placing n text es fs qs fs qs text 0
placing_begins n text es fs qs e = record { count = omega arith; planning = planning_begins (map length (pieces n text)) es fs qs }

module _ {n : ℕ} (some_room : 1 ≤ n) {text : Bytes} {es fs₀ qs₀ fs qs : List ℕ} {rest : Bytes} {i : ℕ} (g : Placing n text es fs₀ qs₀ fs qs rest i) where
  module _ {piece later : Bytes} (comes : Comes n some_room rest piece later) where
    more : pieces n rest ≡ piece ∷ pieces n later
    more = pieces_next n some_room comes

    -- there is a row in the plan for the piece
    pub placing_room : i < length qs
    placing_room = omega (arith, g.count, ap length more, g.planning.places_long)

    module _ (r : Option ℕ) (fs' : List ℕ) (took : first_fit (block.header_size + length piece) (spaces_of fs es) ≡ fit_of r (spaces_of fs' es)) where
      pub placing_fails : r ≡ None → places_for (spaces_of fs₀ es) (map length (pieces n text)) ≡ none
      placing_fails = planning_fails g.planning (length piece) _ (ap (map length) more) r fs' took

      pub placing_on : length fs' ≡ length fs → (q : ℕ) → r ≡ Some q → Placing n text es fs₀ qs₀ fs' (set qs i q) later (i + 1)
      placing_on l q a = record {
        count = omega (arith, g.count, ap length more);
        planning = planning_on g.planning (length piece) _ (ap (map length) more) r fs' took placing_room l q a;
      }

  pub placing_ends : length rest ≤ 0 → places_for (spaces_of fs₀ es) (map length (pieces n text)) ≡ some qs
  placing_ends h =
      let z = pieces_none n rest h in
      planning_ends g.planning (ap (map length) z) ∙ ap some (take_all i qs (omega (arith, g.count, ap length z, g.planning.places_long)))

-- ---- ids

-- i ids are taken of those that are not among the names, and marked
pub record Taking (names₀ words₀ ids₀ words ids : List ℕ) (i : ℕ) : Type 0 where
  pub names : List ℕ
  pub words_long : length words ≡ length words₀
  pub ids_long : length ids ≡ length ids₀
  pub within : i ≤ length ids₀
  pub few : length names ≡ length names₀ + i
  pub marks : Marks first_block_id names words
  pub left : take i ids ++ ids_for names (length ids₀ - i) ≡ ids_for names₀ (length ids₀)

pub taking_begins : (names words ids : List ℕ) → Marks first_block_id names words → Taking names words ids words ids 0
taking_begins names words ids m = record {
  names = names;
  words_long = refl;
  ids_long = refl;
  within = omega arith;
  few = omega arith;
  marks = m;
  left = rw (sub-zero (length ids));
}

module _ {names₀ words₀ ids₀ words ids : List ℕ} {i : ℕ} (g : Taking names₀ words₀ ids₀ words ids i) where
  module _ (room : length names₀ + length ids₀ < capacity words₀) (h : i < length ids₀) where
    enough : length g.names < capacity words
    enough = omega (arith, g.few, g.words_long)

    pub taking_room : first_zero (bits words) < capacity words
    taking_room = unused_within first_block_id g.names words g.marks enough

    pub taking_on : {words' : List ℕ} (r : ℕ) → length words' ≡ length words
        → ((names : List ℕ) → Marks first_block_id names words → length names < capacity words → (r ≡ unused_id first_block_id names) × Marks first_block_id (r ∷ names) words')
        → Taking names₀ words₀ ids₀ words' (set ids i r) (i + 1)
    unfolding ids_for
    taking_on {words'} r long took =
        let t = took g.names g.marks enough in
        let d : length ids₀ - i ≡ suc (length ids₀ - (i + 1)) = omega arith in
        let front : take (i + 1) (set ids i r) ≡ take i ids ++ (r ∷ []) = rw add-one (take-suc-set ids i r (omega (arith, g.ids_long))) in
        let w : take i ids ++ (unused_id first_block_id g.names ∷ ids_for (unused_id first_block_id g.names ∷ g.names) (length ids₀ - (i + 1))) ≡ ids_for names₀ (length ids₀) =
        rw d at g.left in
        record {
          names = r ∷ g.names;
          words_long = long ∙ g.words_long;
          ids_long = length-set ids i r ∙ g.ids_long;
          within = omega arith;
          few = omega (arith, g.few);
          marks = t.1;
          left =
              ap (λ (l : List ℕ). l ++ ids_for (r ∷ g.names) (length ids₀ - (i + 1))) front
              ∙ append_assoc (take i ids) (r ∷ []) (ids_for (r ∷ g.names) (length ids₀ - (i + 1)))
              ∙ rw t.0 w;
        }

  pub taking_ends : length ids₀ ≤ i → ids ≡ ids_for names₀ (length ids₀)
  unfolding ids_for
  taking_ends h =
      let d : length ids₀ - i ≡ 0 = omega arith in
      let w : take i ids ++ [] ≡ ids_for names₀ (length ids₀) = rw d at g.left in
      sym (append-nil (take i ids) ∙ take_all i ids (omega (arith, g.ids_long))) ∙ w

-- ---- stores

-- the pieces before the bytes that are left are stored, and those to come make the whole
pub record Storing (n : ℕ) (text : Bytes) (is qs : List ℕ) (f last : ℕ) (x₀ x : Bytes) (previous : ℕ) (rest : Bytes) (i : ℕ) : Type 0 where
  pub long : length x ≡ length x₀
  pub count : i + length (pieces n rest) ≡ length is
  pub ends : EachAt (EndsWithin (length x₀)) (map length (pieces n rest)) (drop i qs)
  pub left : store_all x (stores_of (drop i is) f previous (pieces n rest) (drop i qs)) ≡ store_all x₀ (stores_of is f last (pieces n text) qs)

-- as many ids and places as pieces, and the places in the image
pub record Ready (n : ℕ) (text : Bytes) (is qs : List ℕ) (x : Bytes) : Type 0 where
  pub some_room : 1 ≤ n
  pub small : n ≤ longest_data
  pub ids_count : length is ≡ length (pieces n text)
  pub planned : Planned (length x) (map length (pieces n text)) qs

pub storing_begins : {n : ℕ} {text : Bytes} {is qs : List ℕ} {x : Bytes} (f last : ℕ) → Ready n text is qs x → Storing n text is qs f last x x last text 0
storing_begins f last r = record { long = refl; count = omega (arith, r.ids_count); ends = r.planned.ends; left = refl }

module _ {n : ℕ} {text : Bytes} {is qs : List ℕ} {f last : ℕ} {x₀ x : Bytes} {previous : ℕ} {rest : Bytes} {i : ℕ} (ready : Ready n text is qs x₀)
    (g : Storing n text is qs f last x₀ x previous rest i) where
  module _ {piece later : Bytes} (comes : Comes n ready.some_room rest piece later) where
    next : pieces n rest ≡ piece ∷ pieces n later
    next = pieces_next n ready.some_room comes

    pub storing_room : (i < length is) × (i < length qs)
    storing_room = (omega (arith, g.count, ap length next), omega (arith, g.count, ap length next, ready.ids_count, ready.planned.count, length-map (pieces n text) (length {A = ℕ})))

    both_end : (get_or qs i 0 + (block.header_size + length piece) ≤ length x₀) × EachAt (EndsWithin (length x₀)) (map length (pieces n later)) (drop (i + 1) qs)
    unfolding EachAt
    both_end = rw add-one (rw (next, drop-cons qs i 0 storing_room.1) at g.ends)

    pub storing_fits : get_or qs i 0 + (block.header_size + length piece) ≤ length x
    storing_fits = rw g.long both_end.0

    pub storing_on : Storing n text is qs f last x₀ (put x (get_or qs i 0) (block_bytes (get_or is i 0) 0 f previous piece)) (get_or is i 0) later (i + 1)
    unfolding stores_of store_all
    storing_on = record {
      long =
          length_put x (get_or qs i 0) (block_bytes (get_or is i 0) 0 f previous piece) (rw (block_size (get_or is i 0) 0 f previous piece) storing_fits)
          ∙ g.long;
      count = omega (arith, g.count, ap length next);
      ends = both_end.1;
      left = rw add-one (rw (next, drop-cons qs i 0 storing_room.1, drop-cons is i 0 storing_room.0) at g.left);
    }

  pub storing_ends : length rest ≤ 0 → x ≡ store_all x₀ (stores_of is f last (pieces n text) qs)
  unfolding stores_of store_all
  storing_ends h =
      let z = pieces_none n rest h in
      let e : drop i is ≡ [] = drop_of_length-le is {i = i} (omega (arith, g.count, ap length z)) in
      rw (z, e) at g.left
