-- What stands around an inode's line: a live inode that is not too deep has one, and right behind it stands what lies below it.
use Prim.Native.Nat.{ℕ, zero, suc, ◌+◌, ◌-◌, ◌≤◌, ◌<◌}
use Rattle.std.proofs.Math.Path.{◌≡◌, refl, sym, ap}
use Rattle.std.proofs.Common.{◌∙◌, inl, inr}
use Rattle.std.specs.Prelude.{◌⊎◌, Bool, cond, length, T}
use Rattle.std.proofs.Math.Logic.{⊎_elim}
use Rattle.std.proofs.Math.Bool.{true, false}
use Rattle.std.proofs.Math.Option.{some}
use mathlib.Core.List.{List, [], ◌∷◌, Memᴰ, append-nil}
use native.Mathlib.Omega.{arith}
use Rattle.format.specs.Ids.{root_id, is_directory_id}
use Rattle.volume.specs.View.{View}
use Rattle.volume.specs.Counting.{Volume, inode_of}
use Rattle.volume.specs.Fate.{Fate, live, ascend, climb, longest_chain, fate_of, lineage, names_of}
use Rattle.volume.specs.Listing.{most_depth, Line, shown, deeper_for, show_entry, is_live_child, entries_of, show_directory, tree_lines}
use Rattle.volume_laws.specs.Tests.{T→true, true→T, eqb_self}
use Rattle.volume_laws.specs.Lists.{joined_mem}
use Rattle.volume_laws.specs.Counting.{counting_mem}
use Rattle.volume_laws.specs.Climb.{climb_stop, climb_on, fate_own, fate_parent, live_within, ascend_on, ascend_live}
use Rattle.volume_laws.specs.Sound.{Sound, parent_directory}
use Rattle.volume_laws.specs.Listing.{depth_on, depth_root, names_end, parent_of, above, Below, mem_entries, show_below, root_directory}
use Rattle.tree_told.specs.Places.{Inside, inside_trans, inside_mem, inside_joined, Precedes, later, precedes_inside, precedes_joined}

module _ {A : Type 0} (F : View A) (v : Volume A) (s : Sound F v) where
  abbrev depth : ℕ → ℕ
  depth i = length (names_of F v i)

  -- ---- the chain of parents of a live inode

  -- below the root it goes on
  pub rises : (x : ℕ) → fate_of F v x ≡ live → 0 < depth x → (r : A) × (ascend F (inode_of F v x) ≡ inr r)
  rises x l h = go (ascend F (inode_of F v x)) refl
    where
      go : (o : Fate ⊎ A) → ascend F (inode_of F v x) ≡ o → (r : A) × (ascend F (inode_of F v x) ≡ inr r)
      go (inl f) e = absurd (omega (arith, h, ap length (names_end F v x f e)))
      go (inr r) e = (r, e)

  -- at depth 0 is the root alone
  pub top : (x : ℕ) → fate_of F v x ≡ live → depth x ≡ 0 → x ≡ root_id
  top x l h = go (ascend F (inode_of F v x)) refl
    where
      go : (o : Fate ⊎ A) → ascend F (inode_of F v x) ≡ o → x ≡ root_id
      go (inl f) e =
          let r = ascend_live F (inode_of F v x) (e ∙ ap inl (sym (fate_own F v x f e) ∙ l)) in
          sym (counting_mem F v.inodes x r.0 r.1).1 ∙ r.2
      go (inr r) e = absurd (omega (arith, h, depth_on F v x r l e))

  -- one level up
  above_one : (n x : ℕ) (r : A) → ascend F (inode_of F v (above F v n x)) ≡ inr r → above F v (suc n) x ≡ F.parent r
  unfolding above
  above_one n x r e = let q = (ascend_on F (inode_of F v (above F v n x)) r e).0 in rw (above, parent_of, q)

  pub above_lives : (x : ℕ) → fate_of F v x ≡ live → (n : ℕ) → n ≤ depth x
      → (fate_of F v (above F v n x) ≡ live) × (depth (above F v n x) + n ≡ depth x)
  unfolding above
  above_lives x l zero h = (l, omega arith)
  above_lives x l (suc n) h =
      let p = above_lives x l n (omega arith) in
      let r = rises (above F v n x) p.0 (omega (arith, p.1)) in
      let e = above_one n x r.0 r.1 in
      rw e (sym (fate_parent F v (above F v n x) r.0 r.1) ∙ p.0, omega (arith, p.1, depth_on F v (above F v n x) r.0 p.0 r.1))

  -- every live inode lies below the root
  pub root_above : (x : ℕ) → fate_of F v x ≡ live → Below F v root_id x (depth x)
  root_above x l =
      let p = above_lives x l (depth x) (omega arith) in
      record { lives = l; deep = omega (arith, depth_root F v); up = top (above F v (depth x) x) p.0 (omega (arith, p.1)) }

  -- ---- its ancestors are those above it
  above_shift : (n x : ℕ) → above F v (suc n) x ≡ above F v n (above F v 1 x)
  unfolding above
  above_shift zero x = refl
  above_shift (suc n) x = let e = above_shift n x in rw (above, e)

  lineage_end : (x : ℕ) (f : Fate) → ascend F (inode_of F v x) ≡ inl f → lineage F v x ≡ x ∷ []
  unfolding lineage climb
  lineage_end x f e = ap (λ l. x ∷ l) (go (longest_chain F v))
    where
      go : (k : ℕ) → climb F (λ f. []) (λ r l. F.parent r ∷ l) (inode_of F v) k x ≡ []
      go zero = refl
      go (suc k) = climb_stop F (λ f. []) (λ r l. F.parent r ∷ l) (inode_of F v) k x f e

  lineage_on : (x : ℕ) (r : A) → fate_of F v x ≡ live → ascend F (inode_of F v x) ≡ inr r → lineage F v x ≡ x ∷ lineage F v (F.parent r)
  unfolding lineage
  lineage_on x r l e = ap (λ l. x ∷ l)
      (sym (live_within F (λ f. []) (λ r l. F.parent r ∷ l) v (suc (longest_chain F v)) x (omega arith) l)
      ∙ climb_on F (λ f. []) (λ r l. F.parent r ∷ l) (inode_of F v) (longest_chain F v) x r e)

  lineage_self : (x : ℕ) → Memᴰ x (lineage F v x)
  unfolding lineage
  lineage_self x = mathlib.Core.List.Memᴰ.head refl

  up_one : (x : ℕ) (r : A) → ascend F (inode_of F v x) ≡ inr r → above F v 1 x ≡ F.parent r
  unfolding above
  up_one x r e = above_one 0 x r e

  pub above_lineage : (n x : ℕ) → fate_of F v x ≡ live → n ≤ depth x → Memᴰ (above F v n x) (lineage F v x)
  unfolding above
  above_lineage zero x l h = lineage_self x
  above_lineage (suc n) x l h =
      let r = rises x l (omega arith) in
      let d = depth_on F v x r.0 l r.1 in
      let i = above_lineage n (F.parent r.0) (sym (fate_parent F v x r.0 r.1) ∙ l) (omega arith) in
      rw (lineage_on x r.0 l r.1, above_shift n x, up_one x r.0 r.1) (mathlib.Core.List.Memᴰ.tail i)

  abbrev SomeAbove : ℕ → ℕ → Type 0
  SomeAbove x i = (n : ℕ) × (n ≤ depth x) × (above F v n x ≡ i)

  itself : (x i : ℕ) → i ≡ x → SomeAbove x i
  unfolding above
  itself x i e = (0, omega arith, sym e)

  pub lineage_above : (k x i : ℕ) → depth x ≡ k → fate_of F v x ≡ live → Memᴰ i (lineage F v x) → SomeAbove x i
  lineage_above zero x i q l m = go (ascend F (inode_of F v x)) refl
    where
      go : (o : Fate ⊎ A) → ascend F (inode_of F v x) ≡ o → SomeAbove x i
      go (inl f) e = itself x i (mathlib.Core.List.Memᴰ.eq_of_singleton (rw (lineage_end x f e) at m))
      go (inr r) e = absurd (omega (arith, q, depth_on F v x r l e))
  lineage_above (suc k) x i q l m =
      let r = rises x l (omega arith) in
      let e = depth_on F v x r.0 l r.1 in
      let n : Memᴰ i (x ∷ lineage F v (F.parent r.0)) = rw (lineage_on x r.0 l r.1) at m in
      let further : SomeAbove (F.parent r.0) i → SomeAbove x i
      = λ u. (suc u.0, omega (arith, e, u.1), above_shift u.0 x ∙ ap (above F v u.0) (up_one x r.0 r.1) ∙ u.2) in
      ⊎_elim (itself x i)
      (λ n. further (lineage_above k (F.parent r.0) i (omega arith) (sym (fate_parent F v x r.0 r.1) ∙ l) n))
      (mathlib.Core.List.Memᴰ.cases_cons n)

  -- ---- lines

  -- what is shown at an inode: its line, and what is below it
  abbrev pub under : ℕ → List Line
  under x = cond (is_directory_id x) (show_directory F v (most_depth - depth x) x) []

  abbrev pub piece : ℕ → List Line
  piece x = shown (depth x) x ∷ under x

  -- a live inode whose parent is d is an entry of d
  entry : (d e : ℕ) (r : A) → fate_of F v e ≡ live → inode_of F v e ≡ some r → F.parent r ≡ d → T (is_live_child F v d e)
  unfolding is_live_child
  entry d e r l q p = rw (is_live_child, q, l, p, eqb_self d) tt

  entry_piece : (k d e : ℕ) → depth d + suc k ≡ most_depth → depth e ≡ suc (depth d)
      → show_entry (show_directory F v k) (most_depth - k) e ≡ piece e
  unfolding show_entry
  entry_piece k d e q p =
      let a : most_depth - k ≡ depth e = omega arith in
      let b : most_depth - depth e ≡ k = omega arith in
      rw (a, b)

  -- the way from a directory down to what lies below it: its entry on that way
  record Way (d x n : ℕ) : Type 0 where
    at_entry : T (is_live_child F v d (above F v n x))
    deep : depth (above F v n x) ≡ suc (depth d)
    lives : fate_of F v (above F v n x) ≡ live

  way : (d x n : ℕ) → Below F v d x (suc n) → Way d x n
  way d x n b =
      let p = above_lives x b.lives n (omega (arith, b.deep)) in
      let r = rises (above F v n x) p.0 (omega (arith, p.1, b.deep)) in
      let c = (ascend_on F (inode_of F v (above F v n x)) r.0 r.1).0 in
      record {
        at_entry = entry d (above F v n x) r.0 p.0 c (sym (above_one n x r.0 r.1) ∙ b.up);
        deep = omega (arith, p.1, b.deep);
        lives = p.0;
      }

  -- what lies on the way to something is a directory
  way_directory : (x n : ℕ) → fate_of F v x ≡ live → suc n ≤ depth x → T (is_directory_id (above F v (suc n) x))
  way_directory x n l h =
      let p = above_lives x l n (omega arith) in
      let r = rises (above F v n x) p.0 (omega (arith, p.1)) in
      let c = ascend_on F (inode_of F v (above F v n x)) r.0 r.1 in
      rw (above_one n x r.0 r.1) (parent_directory F v s (above F v n x) r.0 c.0 c.2)

  under_directory : (k e : ℕ) → T (is_directory_id e) → depth e + k ≡ most_depth → show_directory F v k e ≡ under e
  under_directory k e t q =
      let b : most_depth - depth e ≡ k = omega arith in
      rw (T→true {b = is_directory_id e} t, b)

  inside_tail : {a : Line} {m l : List Line} → m ≡ l → Inside m (a ∷ l)
  inside_tail {a} {m} {l} e = record { front = a ∷ []; behind = []; split = ap (λ n. a ∷ n) (sym e ∙ sym (append-nil m)) }

  inside_self : {m l : List Line} → l ≡ m → Inside m l
  inside_self {m} {l} e = record { front = []; behind = []; split = e ∙ sym (append-nil m) }

  -- what lies below a directory stands there in one piece
  piece_inside : (k d n x : ℕ) → depth d + k ≡ most_depth → suc n ≤ k → Below F v d x (suc n) → Inside (piece x) (show_directory F v k d)
  unfolding show_directory above
  piece_inside zero d n x q h b = absurd (omega arith)
  piece_inside (suc k) d zero x q h b =
      let w = way d x 0 b in
      rw (← entry_piece k d x q w.deep) (inside_joined (show_entry (show_directory F v k) (most_depth - k)) (entries_of F v d) (mem_entries F v d x w.at_entry))
  piece_inside (suc k) d (suc n) x q h b =
      let e = above F v (suc n) x in
      let w = way d x (suc n) b in
      let in_entries = inside_joined (show_entry (show_directory F v k) (most_depth - k)) (entries_of F v d) (mem_entries F v d e w.at_entry) in
      let under_it = under_directory k e (way_directory x n b.lives (omega (arith, b.deep))) (omega (arith, w.deep)) in
      let it : Inside (show_directory F v k e) (show_entry (show_directory F v k) (most_depth - k) e)
      = rw (entry_piece k d e q w.deep) (inside_tail under_it) in
      let rest = piece_inside k e n x (omega (arith, w.deep)) (omega arith)
      (record { lives = b.lives; deep = omega (arith, b.deep, w.deep); up = refl }) in
      inside_trans rest (inside_trans it in_entries)

  -- so does every live inode that is not too deep, in the tree
  root_piece : tree_lines F v ≡ piece root_id
  unfolding tree_lines
  root_piece = rw (depth_root F v, T→true {b = is_directory_id root_id} (root_directory F v s))

  pub tree_piece : (x : ℕ) → fate_of F v x ≡ live → depth x ≤ most_depth → Inside (piece x) (tree_lines F v)
  unfolding tree_lines
  tree_piece x l h = go (depth x) refl
    where
      go : (k : ℕ) → depth x ≡ k → Inside (piece x) (tree_lines F v)
      go zero e = rw (top x l e) (inside_self root_piece)
      go (suc k) e =
          let b : Below F v root_id x (suc k) = rw (← e) (root_above x l) in
          inside_trans (piece_inside most_depth root_id k x (omega (arith, depth_root F v)) (omega arith) b) (inside_tail refl)

  -- the inodes under a line are those below its inode
  pub under_below : (x e y : ℕ) → depth x ≤ most_depth → Memᴰ (shown e y) (under x)
      → (n : ℕ) × (e ≡ depth y) × Below F v x y (suc n)
  under_below x e y h m = go (is_directory_id x) refl m
    where
      go : (b : Bool) → is_directory_id x ≡ b → Memᴰ (shown e y) (cond b (show_directory F v (most_depth - depth x) x) [])
          → (n : ℕ) × (e ≡ depth y) × Below F v x y (suc n)
      go true q n = show_below F v s (most_depth - depth x) x (true→T q) (omega arith) e y n
      go false q n = absurd (mathlib.Core.List.Memᴰ.not-nil n)

  pub below_under : (x y n : ℕ) → depth y ≤ most_depth → Below F v x y (suc n) → Memᴰ (shown (depth y) y) (under x)
  below_under x y n h b =
      let t : T (is_directory_id x) = rw (← b.up) (way_directory y n b.lives (omega (arith, b.deep))) in
      rw (T→true {b = is_directory_id x} t)
      (inside_mem (piece_inside (most_depth - depth x) x n y (omega (arith, b.deep)) (omega (arith, b.deep)) b) (mathlib.Core.List.Memᴰ.head refl))

  -- no line is deeper than that
  shallow : (k d e x : ℕ) → Memᴰ (shown e x) (show_directory F v k d) → e ≤ most_depth
  unfolding show_directory show_entry
  shallow zero d e x m = none (entries_of F v d) m
    where
      none : (l : List ℕ) → Memᴰ (shown e x) (deeper_for l) → e ≤ most_depth
      none [] n = absurd (mathlib.Core.List.Memᴰ.not-nil n)
      none (i ∷ l) n = let q = mathlib.Core.List.Memᴰ.eq_of_singleton n in let z : ◌≡◌ {A = ℕ} 0 1 = cc in absurd (omega arith)
  shallow (suc k) d e x m =
      let r = joined_mem (show_entry (show_directory F v k) (most_depth - k)) (entries_of F v d) m in
      ⊎_elim (λ q. let z : e ≡ most_depth - k = cc in omega arith) (go r.0 (is_directory_id r.0) (shallow k r.0 e x)) (mathlib.Core.List.Memᴰ.cases_cons r.2)
    where
      go : (i : ℕ) (b : Bool) → (Memᴰ (shown e x) (show_directory F v k i) → e ≤ most_depth)
          → Memᴰ (shown e x) (cond b (show_directory F v k i) []) → e ≤ most_depth
      go i true ih n = ih n
      go i false ih n = absurd (mathlib.Core.List.Memᴰ.not-nil n)

  -- every line of an inode is that of a live one, not too deep
  pub line_lives : (e x : ℕ) → fate_of F v root_id ≡ live → Memᴰ (shown e x) (tree_lines F v)
      → (fate_of F v x ≡ live) × (e ≡ depth x) × (e ≤ most_depth)
  unfolding tree_lines
  line_lives e x l m = ⊎_elim at_root below_root (mathlib.Core.List.Memᴰ.cases_cons m)
    where
      at_root : shown e x ≡ shown 0 root_id → (fate_of F v x ≡ live) × (e ≡ depth x) × (e ≤ most_depth)
      at_root q =
          let p : x ≡ root_id = cc in
          let z : e ≡ 0 = cc in
          rw p (l, z ∙ sym (depth_root F v), omega arith)

      below_root : Memᴰ (shown e x) (show_directory F v most_depth root_id) → (fate_of F v x ≡ live) × (e ≡ depth x) × (e ≤ most_depth)
      below_root n =
          let b = show_below F v s most_depth root_id (root_directory F v s) (omega (arith, depth_root F v)) e x n in
          (b.2.lives, b.1, shallow most_depth root_id e x n)

  -- the lines of two entries of a directory stand in the order of the entries
  pub entries_lines : (d i j : ℕ) → fate_of F v d ≡ live → T (is_directory_id d) → depth d < most_depth → depth i ≡ suc (depth d) → depth j ≡ suc (depth d)
      → Precedes i j (entries_of F v d) → Precedes (shown (depth i) i) (shown (depth j) j) (tree_lines F v)
  unfolding show_directory
  entries_lines d i j l t h p q b =
      precedes_inside (tree_piece d l (omega arith)) (later (rw (← under_directory (suc k) d t (omega arith)) shown_so))
    where
      k : ℕ
      k = most_depth - suc (depth d)

      its_line : (x : ℕ) → depth x ≡ suc (depth d) → Memᴰ (shown (depth x) x) (show_entry (show_directory F v k) (most_depth - k) x)
      its_line x e = rw (entry_piece k d x (omega arith) e) (mathlib.Core.List.Memᴰ.head refl)

      shown_so : Precedes (shown (depth i) i) (shown (depth j) j) (show_directory F v (suc k) d)
      shown_so = precedes_joined (show_entry (show_directory F v k) (most_depth - k)) (entries_of F v d) b (its_line i p) (its_line j q)
