-- What the lines tell.
use Prim.Native.Nat.{ℕ, zero, suc, ◌≤◌}
use Rattle.std.specs.Prelude.{◌≡◌, ◌⊎◌, ◌≢◌, ◌↔◌, Bool, ◌||◌, ◌&&◌, eqb}
use Rattle.std.proofs.Math.Path.{refl, ap}
use Rattle.std.proofs.Common.{sym, ◌∙◌, arith, eqb→eq, lt→ltb}
use Rattle.std.proofs.Math.Logic.{inl, inr, ⊎_elim}
use Rattle.std.proofs.Math.Bool.{true, false}
use mathlib.Core.List.Memᴰ
use mathlib.Core.List.{List, [], ◌∷◌, Memᴰ}
use Rattle.std.proofs.Math.Dec.{T, ltb, ltb→lt}
use Rattle.format.specs.Bytes.{Bytes}
use Rattle.format.specs.Ids.{NONE, root_id, is_directory_id}
use Rattle.volume.specs.Lists.{keep, same, sort}
use Rattle.volume.specs.View.{by_bytes}
use Rattle.volume.specs.Counting.{Volume, inode_of, inode_ids}
use Rattle.volume.specs.Fate.{live, dead, ascend, fate_of}
use Rattle.volume.specs.Listing.{most_depth, Line, shown, deeper, deeper_for, bytes_before, name_of, comes_before, is_live_child, entries_of, show_directory, tree_lines}
use Rattle.volume_laws.specs.Tests.{stable, T→true, true→T, not_T→false, eqb_self, eqb_differ}
use Rattle.volume_laws.specs.Lists.{keep_none, same_refl, same_eq}
use Rattle.volume_laws.specs.Once.{Nodup}
use Rattle.volume_laws.specs.Sort.{Sorted, sorted_keep, sorted_sort, bytes_then_number, pairs}
use Rattle.volume_laws.specs.Counting.{counting_mem}
use Rattle.volume_laws.specs.Climb.{fate_own, fate_parent, live_not_dead, live_some}
use Rattle.volume_laws.specs.Sound.{Sound, parent_directory}
use Rattle.volume_laws.specs.Listing.{ids_shown, line_ids, tree_once, mem_entries, above, Below, depth_on}
use Rattle.demand2.specs.Found.{goes_on}
use Rattle.tree_told.specs.Words.{lines_of, is_line_of, depth_of, line_of_inode, StandsBefore, Child, LiesBelow, CutShort, Earlier, ends, lower, equal, InOrder, Around, LinesTold}
use Rattle.tree_told.specs.Places.{inside_mem, Precedes, precedes_either, precedes_sorted, precedes_once, precedes_ids, stands, stands_precedes}
use Rattle.tree_told.proofs.Deeper.{deeper_only}
use Rattle.tree_told.specs.Shown.{above_lives, tree_piece, under, under_below, below_under, above_lineage, lineage_above, line_lives, entries_lines}

-- ---- lines of one inode

-- where its inodes stand once, one line of an inode is its only one
lines_one : (l : List Line) (d i : ℕ) → Nodup (ids_shown l) → Memᴰ (shown d i) l → keep (is_line_of i) l ≡ shown d i ∷ []
unfolding ids_shown keep
lines_one [] d i h m = absurd (Memᴰ.not-nil m)
lines_one (shown e j ∷ l) d i h (Memᴰ.head q) =
    let z : j ≡ i = cc in
    let w : e ≡ d = cc in
    rw (z, w, eqb_self i) (ap (λ n. shown d i ∷ n) (keep_none (is_line_of i) l (other z)))
  where
    other : j ≡ i → (a : Line) → Memᴰ a l → is_line_of i a ≡ false
    other z (shown c k) n = not_T→false (λ t. h.0 (Memᴰ.cast (z ∙ sym (eqb→eq k i t)) (line_ids l n)))
    other z deeper n = refl
lines_one (shown e j ∷ l) d i h (Memᴰ.tail m) =
    let q : eqb j i ≡ false = eqb_differ j i (λ z. h.0 (Memᴰ.cast z (line_ids l m))) in
    rw q (lines_one l d i h.1 m)
lines_one (deeper ∷ l) d i h (Memᴰ.head q) = let z : ◌≡◌ {A = ℕ} 0 1 = cc in absurd (omega arith)
lines_one (deeper ∷ l) d i h (Memᴰ.tail m) = lines_one l d i h m

lines_none : (l : List Line) (i : ℕ) → ((d : ℕ) → ¬ Memᴰ (shown d i) l) → keep (is_line_of i) l ≡ []
lines_none l i h = keep_none (is_line_of i) l other
  where
    other : (a : Line) → Memᴰ a l → is_line_of i a ≡ false
    other (shown c k) n = not_T→false (λ t. h c (Memᴰ.cast (ap (shown c) (sym (eqb→eq k i t))) n))
    other deeper n = refl

-- ---- names in order

earlier : (l m : Bytes) → T (bytes_before l m) → Earlier l m
unfolding bytes_before
earlier [] [] t = absurd t
earlier [] (y ∷ m) t = ends
earlier (x ∷ l) [] t = absurd t
earlier (x ∷ l) (y ∷ m) t = go (ltb x y) refl (eqb x y) refl t (earlier l m)
  where
    go : (a : Bool) → ltb x y ≡ a → (b : Bool) → eqb x y ≡ b → T (a || (b && bytes_before l m)) → (T (bytes_before l m) → Earlier l m) → Earlier (x ∷ l) (y ∷ m)
    go true p b q u ih = lower (ltb→lt x y (true→T p))
    go false p true q u ih = let e = eqb→eq x y (true→T q) in rw e (equal (ih u))
    go false p false q u ih = absurd u

earlier_before : {l m : Bytes} → Earlier l m → T (bytes_before l m)
unfolding bytes_before
earlier_before ends = tt
earlier_before (lower {x} {y} h) = rw (T→true {b = ltb x y} (lt→ltb x y h)) tt
earlier_before (equal {x} {l} {m} e) = first (ltb x x) (earlier_before e)
  where
    first : (a : Bool) → T (bytes_before l m) → T (a || (eqb x x && bytes_before l m))
    first true t = tt
    first false t = rw (eqb_self x) t

module _ (v : Volume Bytes) where
  -- as the entries of a directory are in order
  comes : (i j : ℕ) → T (comes_before by_bytes v i j) → InOrder (name_of by_bytes v i) i (name_of by_bytes v j) j
  unfolding comes_before
  comes i j t = go (bytes_before (name_of by_bytes v i) (name_of by_bytes v j)) refl (same (name_of by_bytes v i) (name_of by_bytes v j)) refl t
    where
      go : (a : Bool) → bytes_before (name_of by_bytes v i) (name_of by_bytes v j) ≡ a → (b : Bool) → same (name_of by_bytes v i) (name_of by_bytes v j) ≡ b
          → T (a || (b && ltb i j)) → InOrder (name_of by_bytes v i) i (name_of by_bytes v j) j
      go true p b q u = inl (earlier (name_of by_bytes v i) (name_of by_bytes v j) (true→T p))
      go false p true q u = inr (same_eq (name_of by_bytes v i) (name_of by_bytes v j) (true→T q), ltb→lt i j u)
      go false p false q u = absurd u

  comes_back : (i j : ℕ) → InOrder (name_of by_bytes v i) i (name_of by_bytes v j) j → T (comes_before by_bytes v i j)
  unfolding comes_before
  comes_back i j (inl e) = rw (T→true {b = bytes_before (name_of by_bytes v i) (name_of by_bytes v j)} (earlier_before e)) tt
  comes_back i j (inr p) = go (bytes_before (name_of by_bytes v i) (name_of by_bytes v j))
    where
      go : (a : Bool) → T (a || (same (name_of by_bytes v i) (name_of by_bytes v j) && ltb i j))
      go true = tt
      go false = rw (T→true {b = same (name_of by_bytes v i) (name_of by_bytes v j)} (rw p.0 (same_refl (name_of by_bytes v j))), T→true {b = ltb i j} (lt→ltb i j p.1)) tt

  -- two that differ stand in one order or the other
  order_total : (i j : ℕ) → i ≢ j → T (comes_before by_bytes v i j) ⊎ T (comes_before by_bytes v j i)
  unfolding comes_before
  order_total i j n =
      let a : Bytes × ℕ = (name_of by_bytes v i, i) in
      let b : Bytes × ℕ = (name_of by_bytes v j, j) in
      ⊎_elim inl (⊎_elim (λ e. absurd (n (ap (λ (p : Bytes × ℕ). p.1) e))) inr) (pairs.total a b)

  entries_sorted : (d : ℕ) → Sorted (comes_before by_bytes v) (entries_of by_bytes v d)
  unfolding entries_of comes_before
  entries_sorted d = sorted_keep (comes_before by_bytes v) (is_live_child by_bytes v d) (sort (comes_before by_bytes v) (inode_ids by_bytes v))
      (sorted_sort (comes_before by_bytes v) (bytes_then_number (name_of by_bytes v) (λ i. i)) (inode_ids by_bytes v))

  name_own : {d i : ℕ} (a : Child v d i) → name_of by_bytes v i ≡ by_bytes.name a.own
  unfolding name_of
  name_own a = rw (name_of, a.counts)

  child_entry : {d i : ℕ} → Child v d i → T (is_live_child by_bytes v d i)
  unfolding is_live_child
  child_entry {d} a = rw (is_live_child, a.counts, a.lives, a.parent, eqb_self d) tt

  module _ (s : Sound by_bytes v) (root : fate_of by_bytes v root_id ≡ live) where
    -- ---- what lies below
    lies_below : (i x n : ℕ) → Below by_bytes v i x (suc n) → LiesBelow v i x
    lies_below i x n b = (
      b.lives,
      rw (← b.up) (above_lineage by_bytes v s (suc n) x b.lives (omega (arith, b.deep))),
      λ e. omega (arith, b.deep, ap (depth_of v) e),
    )

    below_it : (i x : ℕ) → LiesBelow v i x → (n : ℕ) × Below by_bytes v i x (suc n)
    unfolding above
    below_it i x b = let r = lineage_above by_bytes v s (depth_of v x) x i refl b.0 b.1 in at r.0 r.1 r.2
      where
        at : (n : ℕ) → n ≤ depth_of v x → above by_bytes v n x ≡ i → (n : ℕ) × Below by_bytes v i x (suc n)
        at zero h e = absurd (b.2 e)
        at (suc n) h e =
            let p = above_lives by_bytes v s x b.0 (suc n) h in
            (n, record { lives = b.0; deep = omega (arith, p.1, ap (depth_of v) e); up = e })

    -- ---- two children of one directory
    none_root : {i : ℕ} → Child v NONE i → i ≡ root_id
    unfolding ascend
    none_root {i} a = stable i root_id (λ n.
        let e : by_bytes.id a.own ≢ root_id = λ z. n (sym (counting_mem by_bytes v.inodes i a.own a.counts).1 ∙ z) in
        let q : ascend by_bytes (inode_of by_bytes v i) ≡ inl dead = rw (a.counts, ascend, eqb_differ (by_bytes.id a.own) root_id e, a.parent) in
        live_not_dead (sym a.lives ∙ fate_own by_bytes v i dead q))

    record Parent (d i : ℕ) : Type 0 where
      directory : T (is_directory_id d)
      lives : fate_of by_bytes v d ≡ live
      deep : depth_of v i ≡ suc (depth_of v d)

    parent : {d i : ℕ} → Child v d i → d ≢ NONE → Parent d i
    parent {d} {i} a n =
        let p : by_bytes.parent a.own ≢ NONE = λ z. n (sym a.parent ∙ z) in
        let m = (counting_mem by_bytes v.inodes i a.own a.counts).0 in
        let q = goes_on by_bytes v i a.own a.counts (λ z. p (s.root_parent a.own m z)) p in
        record {
          directory = rw (← a.parent) (parent_directory by_bytes v s i a.own a.counts p);
          lives = rw (← a.parent) (sym (fate_parent by_bytes v i a.own q) ∙ a.lives);
          deep = depth_on by_bytes v i a.own a.lives q ∙ ap (λ p. suc (depth_of v p)) a.parent;
        }

    module _ (d i j : ℕ) (a : Child v d i) (b : Child v d j) (n : i ≢ j) (h : depth_of v i ≤ 64) where
      not_none : d ≢ NONE
      not_none z = n (none_root (rw z at a) ∙ sym (none_root (rw z at b)))

      either : Precedes i j (entries_of by_bytes v d) ⊎ Precedes j i (entries_of by_bytes v d)
      either = precedes_either (entries_of by_bytes v d) n (mem_entries by_bytes v d i (child_entry a)) (mem_entries by_bytes v d j (child_entry b))

      sibling_lines : {x y : ℕ} → Child v d x → Child v d y → depth_of v x ≤ 64 → Precedes x y (entries_of by_bytes v d)
          → Precedes (line_of_inode v x) (line_of_inode v y) (lines_of v)
      sibling_lines {x} {y} e f g p =
          let u = parent e not_none in
          let w = parent f not_none in
          entries_lines by_bytes v s d x y u.lives u.directory (omega (arith, u.deep)) u.deep w.deep p

      wrong : {b : Bool} → T b → b ≡ false → ⊥
      wrong t e = rw e at t

      in_order : StandsBefore (lines_of v) (line_of_inode v i) (line_of_inode v j) ↔ InOrder (by_bytes.name a.own) i (by_bytes.name b.own) j
      in_order = (
        λ w. rw (← name_own a, ← name_own b) (comes i j (⊎_elim (λ p. first p) (λ p. absurd (not_both w p)) either)),
        λ o.
            let t : T (comes_before by_bytes v i j) = comes_back i j (rw (name_own a, name_own b) o) in
            stands (lines_of v) (⊎_elim (λ p. sibling_lines a b h p) (λ p. absurd (not_first t p)) either),
      )
        where
          first : Precedes i j (entries_of by_bytes v d) → T (comes_before by_bytes v i j)
          first p =
              let e = precedes_sorted (comes_before by_bytes v) (entries_of by_bytes v d) (entries_sorted d) p in
              ⊎_elim (λ t. t) (λ t. absurd (wrong t e)) (order_total i j n)

          not_first : T (comes_before by_bytes v i j) → ¬ Precedes j i (entries_of by_bytes v d)
          not_first t p = wrong t (precedes_sorted (comes_before by_bytes v) (entries_of by_bytes v d) (entries_sorted d) p)

          not_both : StandsBefore (lines_of v) (line_of_inode v i) (line_of_inode v j) → ¬ Precedes j i (entries_of by_bytes v d)
          not_both w p =
              let g : depth_of v j ≤ 64 = omega (arith, h, (parent a not_none).deep, (parent b not_none).deep) in
              precedes_once (ids_shown (lines_of v)) (tree_once by_bytes v s)
              (precedes_ids (lines_of v) (stands_precedes (lines_of v) w)) (precedes_ids (lines_of v) (sibling_lines b a g p))

    -- ---- what stands around a line
    not_none_live : (i : ℕ) → fate_of by_bytes v i ≡ live → i ≢ NONE
    not_none_live i l z =
        let r = live_some by_bytes v i l in
        let m = counting_mem by_bytes v.inodes i r.0 r.1 in
        omega (arith, z, m.1, s.inode_id r.0 m.0)

    one_deeper : (l : List ℕ) (i : ℕ) → Memᴰ i l → deeper_for l ≡ deeper ∷ []
    one_deeper [] i m = absurd (Memᴰ.not-nil m)
    one_deeper (x ∷ l) i m = refl

    cut_short : (i : ℕ) → CutShort v i → under by_bytes v s i ≡ deeper ∷ []
    unfolding show_directory
    cut_short i c =
        let p = parent c.has (not_none_live i c.lives) in
        rw (T→true {b = is_directory_id i} p.directory, c.deep)
        (one_deeper (entries_of by_bytes v i) c.child (mem_entries by_bytes v i c.child (child_entry c.has)))

    around : (i : ℕ) → fate_of by_bytes v i ≡ live → depth_of v i ≤ 64 → Around v i
    around i l h =
        let w = tree_piece by_bytes v s i l h in
        record {
          front = w.front;
          under = under by_bytes v s i;
          behind = w.behind;
          split = w.split;
          below = λ e x. (
            λ m.
                let r = under_below by_bytes v s i e x h m in
                let t = line_lives by_bytes v s e x root (inside_mem w (Memᴰ.tail m)) in
                (lies_below i x r.0 r.2, t.1, t.2),
            λ b.
                let r = below_it i x b.0 in
                rw b.1 (below_under by_bytes v s i x r.0 (omega (arith, b.1, b.2)) r.1),
          );
          cut = cut_short i;
        }

    told : LinesTold v
    unfolding tree_lines
    told = record {
      root_first = (show_directory by_bytes v most_depth root_id, refl);
      once = λ i l h. lines_one (lines_of v) (depth_of v i) i (tree_once by_bytes v s) (inside_mem (tree_piece by_bytes v s i l h) (Memᴰ.head refl));
      too_deep = λ i h. lines_none (lines_of v) i (λ d m. let r = line_lives by_bytes v s d i root m in omega (arith, h, r.1, r.2));
      never = λ i n. lines_none (lines_of v) i (λ d m. n (line_lives by_bytes v s d i root m).0);
      around = around;
      in_order = in_order;
      deeper_only = deeper_only v s root;
    }

pub lines_told : (v : Volume Bytes) → Sound by_bytes v → fate_of by_bytes v root_id ≡ live → LinesTold v
lines_told = told
