-- Laws of filtered lists that the choice of the copies turns on.
use Prim.Native.Nat.{ℕ, suc, ◌+◌}
use Rattle.std.specs.Prelude.{◌≡◌, Bool, ◌&&◌}
use Rattle.std.proofs.Math.Path.{refl}
use Rattle.std.proofs.Common.{sym}
use Rattle.std.proofs.Math.Bool.{true, false, cond, not}
use mathlib.Core.List.Memᴰ
use mathlib.Core.List.{List, [], ◌∷◌, ◌++◌, map}
use native.Mathlib.Omega.{arith}
use Rattle.std.proofs.Math.ListN.{length}
use Rattle.volume.specs.Lists.{keep, all}
use Rattle.volume_laws.specs.Lists.{keep_mem}
use Rattle.volume_laws.specs.Once.{Nodup}

module _ {A : Type 0} where
  -- a test that all those left out pass
  pub all_kept : (f g : A → Bool) (l : List A) → ((a : A) → g a ≡ false → f a ≡ true) → all f (keep g l) ≡ all f l
  unfolding all keep
  all_kept f g [] h = refl
  all_kept f g (a ∷ l) h = go (g a) refl (all_kept f g l h)
    where
      go : (b : Bool) → g a ≡ b → all f (keep g l) ≡ all f l → all f (cond b (a ∷ keep g l) (keep g l)) ≡ (f a && all f l)
      go true e ih = rw ih
      go false e ih = rw (h a e) ih

  -- a filter that leaves out all those that another leaves out
  pub keep_kept : (f g : A → Bool) (l : List A) → ((a : A) → g a ≡ false → f a ≡ false) → keep f (keep g l) ≡ keep f l
  unfolding keep
  keep_kept f g [] h = refl
  keep_kept f g (a ∷ l) h = go (g a) refl (keep_kept f g l h)
    where
      go : (b : Bool) → g a ≡ b → keep f (keep g l) ≡ keep f l → keep f (cond b (a ∷ keep g l) (keep g l)) ≡ cond (f a) (a ∷ keep f l) (keep f l)
      go true e ih = rw ih
      go false e ih = rw (h a e) ih

  -- a test of those that pass a filter, as one test of all
  pub all_keep : (f g : A → Bool) (l : List A) → all f (keep g l) ≡ all (λ a. cond (g a) (f a) true) l
  unfolding all keep
  all_keep f g [] = refl
  all_keep f g (a ∷ l) = go (g a) (all_keep f g l)
    where
      go : (b : Bool) → all f (keep g l) ≡ all (λ a. cond (g a) (f a) true) l
          → all f (cond b (a ∷ keep g l) (keep g l)) ≡ (cond b (f a) true && all (λ a. cond (g a) (f a) true) l)
      go true ih = rw ih
      go false ih = ih

  pub all_append : (f : A → Bool) (l m : List A) → all f (l ++ m) ≡ (all f l && all f m)
  unfolding all
  all_append f [] m = refl
  all_append f (a ∷ l) m = go (f a) (all_append f l m)
    where
      go : (b : Bool) → all f (l ++ m) ≡ (all f l && all f m) → (b && all f (l ++ m)) ≡ ((b && all f l) && all f m)
      go true ih = ih
      go false ih = refl

  -- two tests of all, as one
  pub all_both : (f g : A → Bool) (l : List A) → (all f l && all g l) ≡ all (λ a. f a && g a) l
  unfolding all
  all_both f g [] = refl
  all_both f g (a ∷ l) = go (f a) (g a) (all f l) (all g l) (all_both f g l)
    where
      go : (x y p q : Bool) → (p && q) ≡ all (λ a. f a && g a) l → ((x && p) && (y && q)) ≡ ((x && y) && all (λ a. f a && g a) l)
      go true true p q ih = ih
      go true false true q ih = refl
      go true false false q ih = refl
      go false y p q ih = refl

  -- those that pass a test and those that do not are all
  pub keep_parts : (f : A → Bool) (l : List A) → length (keep f l) + length (keep (λ a. not (f a)) l) ≡ length l
  unfolding keep
  keep_parts f [] = refl
  keep_parts f (a ∷ l) = go (f a) (keep_parts f l)
    where
      go : (b : Bool) → length (keep f l) + length (keep (λ a. not (f a)) l) ≡ length l
          → length (cond b (a ∷ keep f l) (keep f l)) + length (cond (not b) (a ∷ keep (λ a. not (f a)) l) (keep (λ a. not (f a)) l)) ≡ suc (length l)
      go true h = omega arith
      go false h = omega arith

-- a part of a list of which no two have one number
pub nodup_part : (f : ℕ → ℕ) (g : ℕ → Bool) (l : List ℕ) → Nodup (map f l) → Nodup (map f (keep g l))
unfolding keep
nodup_part f g [] n = tt
nodup_part f g (a ∷ l) n = go (g a) (nodup_part f g l n.1)
  where
    go : (b : Bool) → Nodup (map f (keep g l)) → Nodup (map f (cond b (a ∷ keep g l) (keep g l)))
    go true ih = (
      (λ m. let r = Memᴰ.of_map f (keep g l) m in n.0 (Memᴰ.cast (sym r.2) (Memᴰ.map f (keep_mem g l r.1).0))),
      ih,
    )
    go false ih = ih
