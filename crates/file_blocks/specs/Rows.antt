-- The rows of a table of blocks tell of a file what its volume tells.
use Prim.Native.Nat.{ℕ, zero, suc, ◌+◌, ◌≤◌, ◌<◌}
use Rattle.std.specs.Prelude.{◌≡◌, Bool, ◌&&◌, take, drop, Option, None, Some}
use Rattle.std.specs.List.{filter, list_all}
use Rattle.std.specs.Option.{is_some, unwrap_or}
use Rattle.std.proofs.Math.Path.{refl, sym, ap}
use Rattle.std.proofs.Common.{ap₂, ◌∙◌, length-drop, drop_of_length-le, get_or-drop, drop-drop}
use Rattle.std.proofs.Math.Bool.{true, false, cond, not}
use Rattle.std.proofs.Math.Option.{none, some}
use mathlib.Core.List.{List, [], ◌∷◌, ◌++◌, map, append-nil, Memᴰ}
use native.Mathlib.Omega.{arith}
use Rattle.std.proofs.Math.ListN.{length, get_or}
use Rattle.std.proofs.lemmas.List.{length-map, take_all, take_more, take-append-drop}
use Rattle.std.proofs.Math.Seq.{take-length}
use Rattle.std.proofs.Math.Dec.{eqb}
use Rattle.format.specs.Ids.{NONE}
use Rattle.volume.specs.Lists.{keep, all, has, only}
use Rattle.volume.specs.View.{View}
use Rattle.volume.specs.Counting.{Volume, block_of, block_ids}
use Rattle.volume.specs.Contents.{chain_start, owns, owned, unnamed, last_block}
use Rattle.volume_laws.specs.Lists.{keep_append, keep_cong, keep_keep, keep_map, keep_mem, keep_shorter, mem_place, all_cong, all_map}
use Rattle.volume_laws.specs.Library.{filter_keeps}
use Rattle.volume_laws.specs.Steps.{drop_step}
use Rattle.volume_laws.specs.Counting.{counting_mem}
use Rattle.table_rows.specs.Laws.{row_counts}
use Rattle.table_rows.specs.Rows.{RowsOf}
use Rattle.file_blocks.specs.Blocks.{first_of, mine, free, is_end}

-- ---- a list from a place on

pub rest_none : (l : List ℕ) (k : ℕ) → length l ≤ k → drop k l ≡ []
rest_none l k h = drop_of_length-le l {i = k} h

-- a list that is told by another place by place
map_places : (f : ℕ → ℕ) (l m : List ℕ) → length l ≡ length m → ((k : ℕ) → k < length m → f (get_or m k 0) ≡ get_or l k 0) → l ≡ map f m
map_places f [] [] n h = refl
map_places f [] (y ∷ m) n h = absurd (omega arith)
map_places f (x ∷ l) [] n h = absurd (omega arith)
map_places f (x ∷ l) (y ∷ m) n h =
    ap₂ (λ (a : ℕ) (b : List ℕ). a ∷ b) (sym (h 0 (omega arith))) (map_places f l m (omega arith) (λ k b. h (suc k) (omega arith)))

-- ---- the first that passes a test

module _ {A : Type 0} (t : A → Bool) where
  pub first_within : (l : List A) → first_of t l ≤ length l
  unfolding first_of
  first_within [] = omega arith
  first_within (a ∷ l) = go (t a) (first_within l)
    where
      go : (b : Bool) → first_of t l ≤ length l → cond b zero (suc (first_of t l)) ≤ suc (length l)
      go true h = omega arith
      go false h = omega arith

  pub first_here : (a : A) (l : List A) → t a ≡ true → first_of t (a ∷ l) ≡ 0
  unfolding first_of
  first_here a l e = rw e

  pub first_later : (a : A) (l : List A) → t a ≡ false → first_of t (a ∷ l) ≡ suc (first_of t l)
  unfolding first_of
  first_later a l e = rw e

  -- what is kept starts with it
  pub first_none : (l : List A) → first_of t l ≡ length l → keep t l ≡ []
  unfolding first_of keep
  first_none [] e = refl
  first_none (a ∷ l) e = go (t a) e (first_none l)
    where
      go : (b : Bool) → cond b zero (suc (first_of t l)) ≡ suc (length l) → (first_of t l ≡ length l → keep t l ≡ [])
          → cond b (a ∷ keep t l) (keep t l) ≡ []
      go true e ih = absurd (omega arith)
      go false e ih = ih (omega arith)

  pub first_some : (d : A) (l : List A) → first_of t l < length l → keep t l ≡ get_or l (first_of t l) d ∷ keep t (drop (suc (first_of t l)) l)
  unfolding first_of keep
  first_some d [] h = absurd (omega arith)
  first_some d (a ∷ l) h = go (t a) h (first_some d l)
    where
      go : (b : Bool) → cond b zero (suc (first_of t l)) < suc (length l)
          → (first_of t l < length l → keep t l ≡ get_or l (first_of t l) d ∷ keep t (drop (suc (first_of t l)) l))
          → cond b (a ∷ keep t l) (keep t l)
          ≡ get_or (a ∷ l) (cond b zero (suc (first_of t l))) d ∷ keep t (drop (suc (cond b zero (suc (first_of t l)))) (a ∷ l))
      go true h ih = refl
      go false h ih = ih (omega arith)

-- ---- the rows of a volume's blocks

module _ (F : View ℕ) (v : Volume ℕ) (ids spots : List ℕ) (rows : RowsOf F v.blocks ids spots) (pairs : length spots ≡ length ids) where
  row_held_by : (k : ℕ) → k < length spots → block_of F v (get_or ids k 0) ≡ some (get_or spots k 0)
  row_held_by k h = row_counts F v.blocks (length ids) ids spots rows (omega arith) k (omega arith)

  row_id : (k : ℕ) → k < length spots → F.id (get_or spots k 0) ≡ get_or ids k 0
  row_id k h = (counting_mem F v.blocks (get_or ids k 0) (get_or spots k 0) (row_held_by k h)).1

  -- the ids of the volume's blocks are those of the rows
  ids_told : block_ids F v ≡ map F.id spots
  ids_told = sym rows.ids_are ∙ take-length ids ∙ map_places F.id ids spots (sym pairs) row_id

  -- and each row's block counts
  row_held : (p : ℕ) → Memᴰ p spots → block_of F v (F.id p) ≡ some p
  row_held p m =
      let s = mem_place spots 0 m in
      rw (← s.2, row_id s.0 s.1) (row_held_by s.0 s.1)

  module _ (f : ℕ) where
    owned_rows : owned F v f ≡ map F.id (mine F f spots)
    unfolding owned owns
    owned_rows =
        ap (keep (owns F (block_of F v) f)) ids_told
        ∙ keep_map F.id (owns F (block_of F v) f) spots
        ∙ ap (map F.id) (keep_cong _ _ spots (λ p m. rw (row_held p m)))

    pub owned_counts : length (owned F v f) ≡ length (mine F f spots)
    owned_counts = ap length owned_rows ∙ length-map (mine F f spots) F.id

    unnamed_rows : (i : ℕ) → unnamed F (block_of F v) (owned F v f) i ≡ free F f spots i
    unfolding unnamed free
    unnamed_rows i =
        ap (all (λ j. not (has (λ r. eqb (F.previous r) i) (block_of F v j)))) owned_rows
        ∙ all_map F.id (λ j. not (has (λ r. eqb (F.previous r) i) (block_of F v j))) (mine F f spots)
        ∙ all_cong _ _ (mine F f spots) (λ p m. rw (row_held p (keep_mem _ spots m).0))

    last_rows : last_block F v f ≡ chain_start (only (map F.id (keep (is_end F f spots) spots)))
    unfolding last_block is_end
    last_rows = ap (λ l. chain_start (only l))
        (keep_cong _ _ (owned F v f) (λ i m. unnamed_rows i)
        ∙ ap (keep (free F f spots)) owned_rows
        ∙ keep_map F.id (free F f spots) (mine F f spots)
        ∙ ap (map F.id) (keep_keep (λ p. free F f spots (F.id p)) (λ p. eqb (F.owner p) f) spots))

    -- no end, one, or more than one
    pub last_none : keep (is_end F f spots) spots ≡ [] → some NONE ≡ last_block F v f
    unfolding only
    last_none e = sym (last_rows ∙ rw e)

    pub last_one : (p : ℕ) → keep (is_end F f spots) spots ≡ p ∷ [] → some (F.id p) ≡ last_block F v f
    unfolding only
    last_one p e = sym (last_rows ∙ rw e)

    pub last_several : (p q : ℕ) (l : List ℕ) → keep (is_end F f spots) spots ≡ p ∷ q ∷ l → none ≡ last_block F v f
    unfolding only
    last_several p q l e = sym (last_rows ∙ rw e)

-- ---- one row after the other, of which those from k on are left

-- the search for a row that passes a test
module _ (t : ℕ → Bool) (spots : List ℕ) (k : ℕ) where
  pub search_here : k < length spots → t (get_or spots k 0) ≡ true → first_of t (drop k spots) ≡ 0
  search_here h e = rw (drop_step spots k h) (first_here t (get_or spots k 0) (drop (k + 1) spots) e)

  pub search_later : k < length spots → t (get_or spots k 0) ≡ false → first_of t (drop k spots) ≡ suc (first_of t (drop (k + 1) spots))
  search_later h e = rw (drop_step spots k h) (first_later t (get_or spots k 0) (drop (k + 1) spots) e)

  pub search_end : length spots ≤ k → first_of t (drop k spots) ≡ 0
  unfolding first_of
  search_end h = rw (rest_none spots k h)

  -- what is kept from k on, by where the search from k on ends
  rest_long : k ≤ length spots → length (drop k spots) + k ≡ length spots
  rest_long h = omega (arith, length-drop k spots)

  pub kept_none : k ≤ length spots → (r : ℕ) → r ≡ k + first_of t (drop k spots) → length spots ≤ r → keep t (drop k spots) ≡ []
  kept_none h r e g =
      first_none t (drop k spots) (omega (arith, rest_long h, first_within t (drop k spots)))

  pub kept_some : k ≤ length spots → (r : ℕ) → r ≡ k + first_of t (drop k spots) → r < length spots
      → keep t (drop k spots) ≡ get_or spots r 0 ∷ keep t (drop (r + 1) spots)
  kept_some h r e g =
      let j = first_of t (drop k spots) in
      let b : j < length (drop k spots) = omega (arith, rest_long h) in
      let z : k + suc j ≡ r + 1 = omega arith in
      first_some t 0 (drop k spots) b
      ∙ rw (get_or-drop k spots j 0, ← e, drop-drop (suc j) k spots, z)

-- ---- all rows

module _ (F : View ℕ) (f : ℕ) where
  -- no block of the file names i
  pub free_rows : (i : ℕ) (spots : List ℕ) → list_all (λ p. not (eqb (F.owner p) f && eqb (F.previous p) i)) spots ≡ free F f spots i
  unfolding free keep all
  free_rows i [] = refl
  free_rows i (p ∷ l) = go (eqb (F.owner p) f) (free_rows i l)
    where
      go : (b : Bool) → list_all (λ p. not (eqb (F.owner p) f && eqb (F.previous p) i)) l ≡ all (λ q. not (eqb (F.previous q) i)) (mine F f l)
          → (not (b && eqb (F.previous p) i) && list_all (λ p. not (eqb (F.owner p) f && eqb (F.previous p) i)) l)
          ≡ all (λ q. not (eqb (F.previous q) i)) (cond b (p ∷ mine F f l) (mine F f l))
      go true ih = rw ih
      go false ih = ih

  -- how many blocks the file has
  pub mine_rows : (spots : List ℕ) → length (filter (λ p. eqb (F.owner p) f) spots) ≡ length (mine F f spots)
  mine_rows spots = ap length (filter_keeps (λ p. eqb (F.owner p) f) spots)

  pub mine_few : (spots : List ℕ) → length (mine F f spots) ≤ length spots
  mine_few spots = keep_shorter (λ p. eqb (F.owner p) f) spots

-- ---- the ends among the first k rows: none yet, or the id of the one

abbrev pub OneEnd : View ℕ → Option ℕ → List ℕ → Type 0
OneEnd F None l = l ≡ []
OneEnd F (Some i) l = (p : ℕ) × (l ≡ p ∷ []) × (i ≡ F.id p)

module _ (F : View ℕ) (f : ℕ) (spots : List ℕ) where
  abbrev ends : List ℕ → List ℕ
  ends = keep (is_end F f spots)

  ends_more : (k : ℕ) → k < length spots
      → ends (take (k + 1) spots) ≡ ends (take k spots) ++ cond (is_end F f spots (get_or spots k 0)) (get_or spots k 0 ∷ []) []
  unfolding keep
  ends_more k h = rw (take_more spots k 0 h, keep_append)

  -- one row more, that is no end, or the first, or the second
  module _ (k : ℕ) (h : k < length spots) where
    pub end_not : is_end F f spots (get_or spots k 0) ≡ false → (o : Option ℕ) → OneEnd F o (ends (take k spots)) → OneEnd F o (ends (take (k + 1) spots))
    end_not e o w =
        let z : ends (take (k + 1) spots) ≡ ends (take k spots) = ends_more k h ∙ rw (e, append-nil) in
        rw z w

    pub end_first : is_end F f spots (get_or spots k 0) ≡ true → (o : Option ℕ) → is_some o ≡ false → OneEnd F o (ends (take k spots))
        → (i : ℕ) → i ≡ F.id (get_or spots k 0) → OneEnd F (Some i) (ends (take (k + 1) spots))
    end_first e None n w i is = (get_or spots k 0, ends_more k h ∙ rw (e, w), is)
    end_first e (Some j) n w i is = cc

    two_ends : is_end F f spots (get_or spots k 0) ≡ true → (p : ℕ) → ends (take k spots) ≡ p ∷ []
        → ends spots ≡ p ∷ get_or spots k 0 ∷ ends (drop (k + 1) spots)
    two_ends e p w =
        ap ends (sym (take-append-drop (k + 1) spots)) ∙ keep_append (is_end F f spots) (take (k + 1) spots) (drop (k + 1) spots) ∙ rw (ends_more k h, e, w)

  module _ (v : Volume ℕ) (ids : List ℕ) (rows : RowsOf F v.blocks ids spots) (pairs : length spots ≡ length ids) where
    pub end_second : (k : ℕ) → k < length spots → is_end F f spots (get_or spots k 0) ≡ true
        → (o : Option ℕ) → is_some o ≡ true → OneEnd F o (ends (take k spots)) → none ≡ last_block F v f
    end_second k h e None n w = cc
    end_second k h e (Some i) n w = last_several F v ids spots rows pairs f w.0 (get_or spots k 0) (ends (drop (k + 1) spots)) (two_ends k h e w.0 w.1)

    -- all rows
    pub ends_all : (k : ℕ) → length spots ≤ k → (o : Option ℕ) → OneEnd F o (ends (take k spots)) → some (unwrap_or o NONE) ≡ last_block F v f
    ends_all k h o w = go o (rw (take_all k spots h) at w)
      where
        go : (o : Option ℕ) → OneEnd F o (ends spots) → some (unwrap_or o NONE) ≡ last_block F v f
        go None w = last_none F v ids spots rows pairs f w
        go (Some i) w = ap some w.2 ∙ last_one F v ids spots rows pairs f w.0 w.1
