-- An inode below a directory in which its name was free: the directory has it under that name, and all other names lead where they led.
use Rattle.std.specs.Prelude.{ℕ, ◌≡◌, refl, ◌≢◌, Bool, T, eqb}
use Rattle.std.proofs.Common.{sym, ◌∙◌}
use Rattle.std.proofs.Math.Path.{ap}
use Rattle.std.proofs.Math.Bool.{true, false}
use mathlib.Core.List.{List, ◌∷◌, ◌++◌}
use Rattle.std.proofs.Math.Dec.{eqb→eq}
use Rattle.format.specs.Bytes.{Bytes}
use Rattle.format.specs.Ids.{root_id, is_directory_id}
use Rattle.volume.specs.Lists.{same, nobody, one, only}
use Rattle.volume.specs.View.{View}
use Rattle.volume.specs.Counting.{Volume, inode_of}
use Rattle.volume.specs.Fate.{live, fate_of}
use Rattle.volume.specs.Tree.{found, is_entry, is_child, children, walk, lookup_names}
use Rattle.volume_laws.specs.Tests.{true→T, not_T→false, and_T}
use Rattle.volume_laws.specs.Lists.{same_eq}
use Rattle.volume_laws.specs.Tree.{only_same, children_mem, live_child}
use Rattle.demand2.specs.Added.{Changed}
use Rattle.demand2.proofs.Added.{split, child_same}
use Rattle.demand2.specs.Found.{sole_child, no_child}
use Rattle.demand2.specs.Lineage.{lookup_along}

-- r counts in w and is live there; all else is as in v, where no live inode had its parent and name
module _ {A : Type 0} (F : View A) (v w : Volume A) (r : A) (changed : Changed F (inode_of F v) (inode_of F w) r)
    (lives : fate_of F w (F.id r) ≡ live) (fates : (j : ℕ) → j ≢ F.id r → fate_of F w j ≡ fate_of F v j)
    (free : (j : ℕ) → is_child F v (F.parent r) (F.name r) j ≡ false) where
  -- every other inode is the child that it was
  child_other : (d : ℕ) (n : Bytes) (j : ℕ) → j ≢ F.id r → is_child F w d n j ≡ is_child F v d n j
  child_other d n j q = child_same F v w d n j (changed.others j q) (fates j q)

  -- its directory has it, and no other, under its name
  pub entered : only (children F w (F.parent r) (F.name r)) ≡ one (F.id r)
  entered = sole_child F w (F.parent r) (F.name r) (F.id r)
      (children_mem F w (F.parent r) (F.name r) (F.id r) (live_child F w (F.id r) r changed.here lives))
      (split F r (λ x. T (is_child F w (F.parent r) (F.name r) x) → x ≡ F.id r) (λ t. refl)
      (λ x n t. let e : is_child F w (F.parent r) (F.name r) x ≡ false = child_other (F.parent r) (F.name r) x n ∙ free x in absurd
      (rw e at t)))

  -- where it had none before
  pub entered_free : (d : ℕ) (n : Bytes) → is_entry F d n r ≡ true → only (children F v d n) ≡ nobody
  unfolding is_entry
  entered_free d n t =
      let u = and_T (eqb (F.parent r) d) (same (F.name r) n) (true→T t) in
      rw (← eqb→eq (F.parent r) d u.0, ← same_eq (F.name r) n u.1)
      (no_child F v (F.parent r) (F.name r) (λ x t. rw (free x) at t))

  -- other names have the same only children, but for the one that it had itself
  pub entered_not : (d : ℕ) (n : Bytes) → is_entry F d n r ≡ false → ¬ T (is_child F v d n (F.id r))
      → only (children F w d n) ≡ only (children F v d n)
  unfolding is_child
  entered_not d n t b = only_same F v w d n (split F r (λ i. is_child F w d n i ≡ is_child F v d n i)
      (rw (is_child, changed.here, t) (sym (not_T→false b))) (child_other d n))

  -- a lookup that neither takes its name in its directory nor comes to it by its old one is answered as before
  pub entered_elsewhere : (ns : List Bytes)
      → ((ms rest : List Bytes) → lookup_names F v ms ≡ found (F.parent r) → ns ≢ ms ++ (F.name r ∷ rest))
      → ((ms : List Bytes) (n : Bytes) (rest : List Bytes) (x : ℕ) → ns ≡ ms ++ (n ∷ rest) → lookup_names F v ms ≡ found x → is_directory_id x ≡ true
      → ¬ T (is_child F v x n (F.id r)))
      → lookup_names F w ns ≡ lookup_names F v ns
  unfolding lookup_names is_entry
  entered_elsewhere ns new old = lookup_along F v w ns (λ ms n rest x s f dir. at ms n rest x s f dir (is_entry F x n r) refl)
    where
      at : (ms : List Bytes) (n : Bytes) (rest : List Bytes) (x : ℕ) → ns ≡ ms ++ (n ∷ rest) → walk F v root_id ms ≡ found x → is_directory_id x ≡ true
          → (b : Bool) → is_entry F x n r ≡ b → only (children F w x n) ≡ only (children F v x n)
      at ms n rest x s f dir true t =
          let u = and_T (eqb (F.parent r) x) (same (F.name r) n) (true→T t) in
          absurd (new ms rest (f ∙ ap found (sym (eqb→eq (F.parent r) x u.0)))
          (s ∙ ap (λ m. ms ++ (m ∷ rest)) (sym (same_eq (F.name r) n u.1))))
      at ms n rest x s f dir false t = entered_not x n t (old ms n rest x s f dir)
