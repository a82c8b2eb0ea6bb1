-- What a loop over a list meets: one more member, or the end. The list's rest is given by an equation, so that the laws serve every list.
use Rattle.std.specs.Prelude.{ℕ, ◌+◌, ◌≤◌, ◌<◌, ◌≡◌, refl, Bool, true, false, ◌&&◌, List, [], ◌∷◌, length, take, drop, get_or}
use Rattle.std.proofs.Common.{sym, ◌∙◌, add-one, drop_of_length-le, drop-cons, get_or-take, length-take-le}
use Rattle.volume.specs.Lists.{keep, all}

-- a list of numbers from i on
pub drop_step : (l : List ℕ) (i : ℕ) → i < length l → drop i l ≡ get_or l i 0 ∷ drop (i + 1) l
drop_step l i h = rw (add-one, drop-cons l i 0 h)

-- the first n of a list from i on
module _ (l : List ℕ) (n i : ℕ) (within : n ≤ length l) where
  pub front_step : i < n → drop i (take n l) ≡ get_or l i 0 ∷ drop (i + 1) (take n l)
  front_step h = rw (← get_or-take n l i 0 h) (drop_step (take n l) i (rw (length-take-le n l within) h))

  pub front_end : n ≤ i → drop i (take n l) ≡ []
  front_end h = drop_of_length-le (take n l) {i = i} (rw (length-take-le n l within) h)

-- ---- a test that asks the members one after the other, each beside those behind it, and passes where all pass

pub record Asks {A : Type 0} (test : List A → Bool) (each : A → List A → Bool) : Type 0 where
  pub nothing : test [] ≡ true
  pub one : (a : A) (l : List A) → test (a ∷ l) ≡ (each a l && test l)

pub all_asks : {A : Type 0} (p : A → Bool) → Asks (all p) (λ a l. p a)
unfolding all
all_asks p = record { nothing = refl; one = λ a l. refl }

-- the members before l have passed, so that the whole test is that of l
module _ {A : Type 0} {test : List A → Bool} {each : A → List A → Bool} (k : Asks test each) {l : List A} {whole : Bool} (so_far : test l ≡ whole) where
  module _ {m : List A} {a : A} (step : l ≡ a ∷ m) where
    pub ask_passes : each a m ≡ true → test m ≡ whole
    ask_passes e = let o = k.one a m in sym (rw (step, o, e)) ∙ so_far

    pub ask_fails : each a m ≡ false → false ≡ whole
    ask_fails e = let o = k.one a m in sym (rw (step, o, e)) ∙ so_far

  pub ask_ends : l ≡ [] → true ≡ whole
  ask_ends end = let o = k.nothing in sym (rw (end, o)) ∙ so_far

-- ---- the members that pass a test

module _ {A : Type 0} {l m : List A} {a : A} (step : l ≡ a ∷ m) where
  pub keep_takes : (p : A → Bool) → p a ≡ true → keep p l ≡ a ∷ keep p m
  unfolding keep
  keep_takes p e = rw (step, e)

  pub keep_leaves : (p : A → Bool) → p a ≡ false → keep p l ≡ keep p m
  unfolding keep
  keep_leaves p e = rw (step, e)

pub keep_ends : {A : Type 0} {l : List A} → l ≡ [] → (p : A → Bool) → keep p l ≡ []
unfolding keep
keep_ends end p = rw end
