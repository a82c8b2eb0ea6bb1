-- The tree, line by line: a directory shows what is below it, each once.
use Rattle.std.proofs.Math.Path.{◌≡◌, refl, sym, ap}
use Rattle.std.proofs.Common.{◌∙◌, arith, length-append, ltb→lt}
use Rattle.std.proofs.Math.Logic.{inl, inr, ⊎_elim}
use Rattle.std.specs.Prelude.{◌≢◌, Bool, true, false, cond}
use Rattle.std.proofs.Math.Option.{Option, none, some}
use mathlib.Core.List.Memᴰ
use mathlib.Core.List.{List, [], ◌∷◌, ◌++◌, Memᴰ}
use Prim.Native.Nat.{ℕ, zero, suc, ◌+◌, ◌-◌, ◌≤◌}
use Rattle.std.proofs.Math.ListN.{length}
use Rattle.std.proofs.Math.Dec.{T, eqb, eqb→eq}
use Rattle.format.specs.Bytes.{Bytes}
use Rattle.format.specs.Ids.{NONE, root_id, first_file_id, is_directory_id}
use Rattle.volume.specs.Lists.{has, joined, sort}
use Rattle.volume.specs.View.{View}
use Rattle.volume.specs.Counting.{Volume, inode_of, inode_ids}
use Rattle.volume.specs.Fate.{Fate, live, orphan, is_live, ascend, climb, longest_chain, fate_of, names_of}
use Rattle.volume.specs.Listing.{most_depth, Line, shown, deeper, deeper_for, show_entry, comes_before, is_live_child, entries_of, show_directory, tree_lines}
use Rattle.volume_laws.specs.Tests.{true→T, and_T, eqb_differ, has_some}
use Rattle.volume_laws.specs.Lists.{keep_mem, mem_keep, joined_mem}
use Rattle.volume_laws.specs.Once.{Nodup, pigeons, nodup_keep, nodup_joined}
use Rattle.volume_laws.specs.Sort.{mem_sort, nodup_sort}
use Rattle.volume_laws.specs.Counting.{ids_of_lem, counting_mem}
use Rattle.volume_laws.specs.Climb.{climb_stop, climb_on, is_live_lem, live_within, live_some}
use Rattle.volume_laws.specs.Sound.{Sound}

-- ---- the inodes of some lines, in order
unfoldable pub ids_shown : List Line → List ℕ
ids_shown [] = []
ids_shown (shown d i ∷ l) = i ∷ ids_shown l
ids_shown (deeper ∷ l) = ids_shown l

pub ids_append : (l m : List Line) → ids_shown (l ++ m) ≡ ids_shown l ++ ids_shown m
unfolding ids_shown
ids_append [] m = refl
ids_append (shown d i ∷ l) m = ap (λ k. i ∷ k) (ids_append l m)
ids_append (deeper ∷ l) m = ids_append l m

pub ids_joined : {A : Type 0} (f : A → List Line) (l : List A) → ids_shown (joined f l) ≡ joined (λ a. ids_shown (f a)) l
unfolding joined ids_shown
ids_joined f [] = refl
ids_joined f (a ∷ l) = ids_append (f a) (joined f l) ∙ ap (λ m. ids_shown (f a) ++ m) (ids_joined f l)

-- each has its line
pub ids_line : (l : List Line) {i : ℕ} → Memᴰ i (ids_shown l) → (d : ℕ) × Memᴰ (shown d i) l
unfolding ids_shown
ids_line [] m = absurd (Memᴰ.not-nil m)
ids_line (shown d j ∷ l) m =
    ⊎_elim (λ e. (d, Memᴰ.head (ap (shown d) e))) (λ n. let r = ids_line l n in (r.0, Memᴰ.tail r.1)) (Memᴰ.cases_cons m)
ids_line (deeper ∷ l) m = let r = ids_line l m in (r.0, Memᴰ.tail r.1)

pub line_ids : (l : List Line) {d i : ℕ} → Memᴰ (shown d i) l → Memᴰ i (ids_shown l)
unfolding ids_shown
line_ids [] m = absurd (Memᴰ.not-nil m)
line_ids (shown e j ∷ l) {d} {i} m = ⊎_elim (λ q. let z : i ≡ j = cc in Memᴰ.head z) (λ n. Memᴰ.tail (line_ids l n)) (Memᴰ.cases_cons m)
line_ids (deeper ∷ l) m = ⊎_elim (λ q. let z : ◌≡◌ {A = ℕ} 0 1 = cc in absurd (omega arith)) (line_ids l) (Memᴰ.cases_cons m)

pub no_ids_deeper : (l : List ℕ) → ids_shown (deeper_for l) ≡ []
unfolding ids_shown
no_ids_deeper [] = refl
no_ids_deeper (i ∷ l) = refl

-- a directory's id is not NONE
pub directory_not_none : (d : ℕ) → T (is_directory_id d) → d ≢ NONE
unfolding is_directory_id
directory_not_none d t e = omega (arith, ltb→lt d first_file_id t)

module _ {A : Type 0} (F : View A) (v : Volume A) where
  -- ---- the entries of a directory are its live children, each once
  child_there : (d i : ℕ) → T (is_live_child F v d i) → (r : A) × (inode_of F v i ≡ some r) × (F.parent r ≡ d) × (fate_of F v i ≡ live)
  unfolding is_live_child
  child_there d i t =
      let u = and_T (has (λ r. eqb (F.parent r) d) (inode_of F v i)) (is_live (fate_of F v i)) t in
      let s = has_some (λ r. eqb (F.parent r) d) (inode_of F v i) u.0 in
      (s.0, s.1, eqb→eq (F.parent s.0) d s.2, is_live_lem (fate_of F v i) u.1)

  pub entries_mem : (d i : ℕ) → Memᴰ i (entries_of F v d) → T (is_live_child F v d i)
  unfolding entries_of
  entries_mem d i m = (keep_mem (is_live_child F v d) (sort (comes_before F v) (inode_ids F v)) m).1

  pub mem_entries : (d i : ℕ) → T (is_live_child F v d i) → Memᴰ i (entries_of F v d)
  unfolding entries_of
  mem_entries d i t =
      let s = child_there d i t in
      mem_keep (is_live_child F v d) (sort (comes_before F v) (inode_ids F v))
      (mem_sort (comes_before F v) (inode_ids F v) ((ids_of_lem F v.inodes).each i s.0 s.1)) t

  pub entries_nodup : (d : ℕ) → Nodup (entries_of F v d)
  unfolding entries_of
  entries_nodup d = nodup_keep (is_live_child F v d) (sort (comes_before F v) (inode_ids F v))
      (nodup_sort (comes_before F v) (inode_ids F v) (ids_of_lem F v.inodes).nodup)

  -- ---- depths, and what lies above an inode
  abbrev depth : ℕ → ℕ
  depth i = length (names_of F v i)

  abbrev names_within : ℕ → ℕ → List Bytes
  names_within = climb F (λ f. []) (λ r l. l ++ (F.name r ∷ [])) (inode_of F v)

  -- where the chain of parents ends there are no names
  pub names_end : (i : ℕ) (f : Fate) → ascend F (inode_of F v i) ≡ inl f → names_of F v i ≡ []
  unfolding names_of climb
  names_end i f e = go (longest_chain F v)
    where
      go : (k : ℕ) → names_within k i ≡ []
      go zero = refl
      go (suc k) = climb_stop F (λ f. []) (λ r l. l ++ (F.name r ∷ [])) (inode_of F v) k i f e

  -- a live inode has those of its parent, and its own
  pub names_on : (i : ℕ) (r : A) → fate_of F v i ≡ live → ascend F (inode_of F v i) ≡ inr r
      → names_of F v i ≡ names_of F v (F.parent r) ++ (F.name r ∷ [])
  unfolding names_of
  names_on i r l e =
      sym (live_within F (λ f. []) (λ r l. l ++ (F.name r ∷ [])) v (suc (longest_chain F v)) i (omega arith) l)
      ∙ climb_on F (λ f. []) (λ r l. l ++ (F.name r ∷ [])) (inode_of F v) (longest_chain F v) i r e

  -- so it is one level deeper
  pub depth_on : (i : ℕ) (r : A) → fate_of F v i ≡ live → ascend F (inode_of F v i) ≡ inr r → depth i ≡ suc (depth (F.parent r))
  depth_on i r l e = omega (arith, ap length (names_on i r l e), length-append (names_of F v (F.parent r)) (F.name r ∷ []))

  -- the root is at depth 0
  pub depth_root : depth root_id ≡ 0
  unfolding ascend
  depth_root = go (inode_of F v root_id) refl
    where
      ends : (f : Fate) → ascend F (inode_of F v root_id) ≡ inl f → depth root_id ≡ 0
      ends f e = ap length (names_end root_id f e)

      go : (o : Option A) → inode_of F v root_id ≡ o → depth root_id ≡ 0
      go none e = ends orphan (rw (e, ascend))
      go (some r) e = ends live (rw (e, ascend, (counting_mem F v.inodes root_id r e).1))

  -- the parent of an inode, and the inode so many levels above it
  abbrev pub parent_of : ℕ → ℕ
  parent_of i = elim (inode_of F v i) [ none ↦ NONE | some r ↦ F.parent r ]

  unfoldable pub above : ℕ → ℕ → ℕ
  above zero i = i
  above (suc n) i = parent_of (above n i)

  -- x is live and lies so many levels below d
  pub record Below (d x levels : ℕ) : Type 0 where
    pub lives : fate_of F v x ≡ live
    pub deep : depth x ≡ levels + depth d
    pub up : above levels x ≡ d

  -- two that lie above one, equally deep, are one
  below_one : {d e x m n : ℕ} → Below d x m → Below e x n → depth d ≡ depth e → d ≡ e
  below_one {d} {e} {x} {m} {n} b c q =
      let z : m ≡ n = omega (arith, b.deep, c.deep, q) in
      sym b.up ∙ ap (λ k. above k x) z ∙ c.up

  module _ (s : Sound F v) where
    -- from a live child to its directory
    pub record Child (d i : ℕ) : Type 0 where
      pub own : A
      pub counts : inode_of F v i ≡ some own
      pub parent : F.parent own ≡ d
      pub lives : fate_of F v i ≡ live
      pub deep : depth i ≡ suc (depth d)

    pub child : (d i : ℕ) → T (is_directory_id d) → T (is_live_child F v d i) → Child d i
    unfolding ascend
    child d i t u =
        let c = child_there d i u in
        let n : F.parent c.0 ≢ NONE = λ z. directory_not_none d t (sym c.2 ∙ z) in
        let e : F.id c.0 ≢ root_id = λ z. n (s.root_parent c.0 (counting_mem F v.inodes i c.0 c.1).0 z) in
        let a : ascend F (inode_of F v i) ≡ inr c.0 = rw (c.1, ascend, eqb_differ (F.id c.0) root_id e, eqb_differ (F.parent c.0) NONE n) in
        record {
          own = c.0;
          counts = c.1;
          parent = c.2;
          lives = c.3;
          deep = depth_on i c.0 c.3 a ∙ ap (λ p. suc (depth p)) c.2;
        }

    child_parent : {d i : ℕ} → Child d i → parent_of i ≡ d
    child_parent c = rw (parent_of, c.counts) c.parent

    -- what lies below a child lies below its directory
    below_child : {d i x levels : ℕ} → Child d i → Below i x levels → Below d x (suc levels)
    unfolding above
    below_child c b = record {
      lives = b.lives;
      deep = omega (arith, b.deep, c.deep);
      up = ap parent_of b.up ∙ child_parent c;
    }

    itself : {d i : ℕ} → Child d i → Below i i 0
    unfolding above
    itself c = record { lives = c.lives; deep = omega arith; up = refl }

    -- each line that a directory shows is that of an inode below it, with its depth
    abbrev LineBelow : ℕ → ℕ → ℕ → Type 0
    LineBelow d e x = (levels : ℕ) × (e ≡ depth x) × Below d x (suc levels)

    abbrev LineAt : ℕ → ℕ → ℕ → Type 0
    LineAt i e x = (levels : ℕ) × (e ≡ depth x) × Below i x levels

    entry_below : (k : ℕ) (directory : ℕ → List Line) (d i : ℕ) → Child d i → depth i + k ≡ most_depth
        → ((e x : ℕ) → T (is_directory_id i) → Memᴰ (shown e x) (directory i) → LineBelow i e x)
        → (e x : ℕ) → Memᴰ (shown e x) (show_entry directory (most_depth - k) i) → LineAt i e x
    unfolding show_entry
    entry_below k directory d i c q ih e x m = ⊎_elim here (go (is_directory_id i) refl) (Memᴰ.cases_cons m)
      where
        here : shown e x ≡ shown (most_depth - k) i → LineAt i e x
        here z =
            let p : x ≡ i = cc in
            let n : e ≡ most_depth - k = cc in
            rw p (0, omega (arith, n, q), itself c)

        go : (b : Bool) → is_directory_id i ≡ b → Memᴰ (shown e x) (cond b (directory i) []) → LineAt i e x
        go true z n = let r = ih e x (true→T z) n in (suc r.0, r.1, r.2)
        go false z n = absurd (Memᴰ.not-nil n)

    -- k more levels are shown of it
    pub show_below : (k d : ℕ) → T (is_directory_id d) → depth d + k ≡ most_depth
        → (e x : ℕ) → Memᴰ (shown e x) (show_directory F v k d) → LineBelow d e x
    unfolding show_directory
    show_below zero d t q e x m = absurd (no_line (entries_of F v d) m)
      where
        no_line : (l : List ℕ) → ¬ Memᴰ (shown e x) (deeper_for l)
        no_line [] n = Memᴰ.not-nil n
        no_line (i ∷ l) n = ⊎_elim (λ z. let z : ◌≡◌ {A = ℕ} 0 1 = cc in omega arith) Memᴰ.not-nil (Memᴰ.cases_cons n)
    show_below (suc k) d t q e x m =
        let r = joined_mem (show_entry (show_directory F v k) (most_depth - k)) (entries_of F v d) m in
        let c = child d r.0 t (entries_mem d r.0 r.1) in
        let h : depth r.0 + k ≡ most_depth = omega (arith, c.deep, q) in
        let l = entry_below k (show_directory F v k) d r.0 c h (λ e x u n. show_below k r.0 u h e x n) e x r.2 in
        (l.0, l.1, below_child {levels = l.0} c l.2)

    entry_at : (k d i : ℕ) → T (is_directory_id d) → depth d + suc k ≡ most_depth → Memᴰ i (entries_of F v d)
        → (e x : ℕ) → Memᴰ (shown e x) (show_entry (show_directory F v k) (most_depth - k) i) → LineAt i e x
    entry_at k d i t q m =
        let c = child d i t (entries_mem d i m) in
        let h : depth i + k ≡ most_depth = omega (arith, c.deep, q) in
        entry_below k (show_directory F v k) d i c h (λ e x u n. show_below k i u h e x n)

    -- so each stands there once
    pub show_once : (k d : ℕ) → T (is_directory_id d) → depth d + k ≡ most_depth → Nodup (ids_shown (show_directory F v k d))
    unfolding show_directory show_entry ids_shown
    show_once zero d t q = rw (no_ids_deeper (entries_of F v d)) tt
    show_once (suc k) d t q =
        rw (ids_joined (show_entry (show_directory F v k) (most_depth - k)) (entries_of F v d))
        (nodup_joined (λ i. ids_shown (show_entry (show_directory F v k) (most_depth - k) i)) (entries_of F v d) (entries_nodup d)
        (λ i m. let c = child d i t (entries_mem d i m) in each i (omega (arith, c.deep, q)) (show_once k i))
        shared)
      where
        each : (i : ℕ) → depth i + k ≡ most_depth → (T (is_directory_id i) → depth i + k ≡ most_depth → Nodup (ids_shown (show_directory F v k i)))
            → Nodup (ids_shown (show_entry (show_directory F v k) (most_depth - k) i))
        each i h ih = go (is_directory_id i) refl
          where
            deeper_ones : T (is_directory_id i) → ¬ Memᴰ i (ids_shown (show_directory F v k i))
            deeper_ones u m =
                let r = ids_line (show_directory F v k i) m in
                let b = show_below k i u h r.0 i r.1 in
                omega (arith, b.2.deep)

            go : (b : Bool) → is_directory_id i ≡ b → Nodup (i ∷ ids_shown (cond b (show_directory F v k i) []))
            go true e = (deeper_ones (true→T e), ih (true→T e) h)
            go false e = (Memᴰ.not-nil, tt)

        shared : (i j x : ℕ) → Memᴰ i (entries_of F v d) → Memᴰ j (entries_of F v d)
            → Memᴰ x (ids_shown (show_entry (show_directory F v k) (most_depth - k) i))
            → Memᴰ x (ids_shown (show_entry (show_directory F v k) (most_depth - k) j)) → i ≡ j
        shared i j x m n a b =
            let f = ids_line (show_entry (show_directory F v k) (most_depth - k) i) a in
            let g = ids_line (show_entry (show_directory F v k) (most_depth - k) j) b in
            let c = child d i t (entries_mem d i m) in
            let e = child d j t (entries_mem d j n) in
            below_one (entry_at k d i t q m f.0 x f.1).2 (entry_at k d j t q n g.0 x g.1).2 (c.deep ∙ sym e.deep)

    root_levels : depth root_id + most_depth ≡ most_depth
    root_levels = omega (arith, depth_root)

    pub root_directory : T (is_directory_id root_id)
    unfolding is_directory_id
    root_directory = tt

    -- T-07: "Each live inode appears exactly once": at most once
    pub tree_once : Nodup (ids_shown (tree_lines F v))
    unfolding tree_lines ids_shown
    tree_once = (
      λ m.
          let r = ids_line (show_directory F v most_depth root_id) m in
          omega (arith, (show_below most_depth root_id root_directory root_levels r.0 root_id r.1).2.deep),
      show_once most_depth root_id root_directory root_levels,
    )

    -- so there are no more than inode ids
    line_there : (x : ℕ) → Memᴰ x (ids_shown (show_directory F v most_depth root_id)) → Memᴰ x (inode_ids F v)
    line_there x m =
        let r = ids_line (show_directory F v most_depth root_id) m in
        let l = live_some F v x (show_below most_depth root_id root_directory root_levels r.0 x r.1).2.lives in
        (ids_of_lem F v.inodes).each x l.0 l.1

    pub shown_few : length (ids_shown (show_directory F v most_depth root_id)) ≤ length (inode_ids F v)
    shown_few = pigeons (ids_shown (show_directory F v most_depth root_id)) (inode_ids F v) (show_once most_depth root_id root_directory root_levels)
        line_there

    -- the root among them, where there is one
    pub tree_few : (r : A) → inode_of F v root_id ≡ some r → length (ids_shown (tree_lines F v)) ≤ length (inode_ids F v)
    unfolding tree_lines ids_shown
    tree_few r e = pigeons (ids_shown (tree_lines F v)) (inode_ids F v) tree_once
        (λ x m. ⊎_elim (λ z. Memᴰ.cast z ((ids_of_lem F v.inodes).each root_id r e)) (line_there x) (Memᴰ.cases_cons m))
