-- A clean area is records back to back and then erased bytes.
use Prim.Native.Nat.{ℕ, zero, suc, ◌+◌, ◌-◌, ◌≤◌, ◌<◌}
use Rattle.std.specs.Prelude.{◌≡◌, Bool, true, false, cond, ◌&&◌, take, drop, get_or, replicate, eqb}
use Rattle.std.proofs.Math.Path.{refl, sym}
use Rattle.std.proofs.Common.{ap, ◌∙◌, inr, arith, drop_of_length-le, take_all, get_or-drop, eqb-true, eq-eqb}
use mathlib.Core.List.{List, [], ◌∷◌, append-nil}
use Rattle.std.proofs.Math.ListN.{length, length-drop, length-replicate}
use Rattle.std.proofs.lemmas.List.{get_or-replicate}
use Rattle.std.proofs.Math.Nat.{sub_self}
use Rattle.format.specs.Bytes.{Bytes}
use Rattle.format.specs.AreaHeader.{area_header_size}
use Rattle.format.specs.Reading.{Acceptor, ERASED, Part, taken, stretch, skip, parts, placed, erased_end, Stretch, damaged_bytes, damaged, area_parts, area_damage, area_clean}
use Rattle.format_laws.specs.Record.{and_right}
use Rattle.format_laws.specs.Reading.{Lawful, passed, joined, parts_none, parts_take, parts_pass, parts_joined, placed_passed, placed_none, damaged_last, erased_end_le}

pub data Clean (size : Acceptor) : Bytes → Type 0 where
  free : {t : Bytes} (n : ℕ) → t ≡ replicate n ERASED → Clean size t
  next : {t : Bytes} → 0 < size t → Clean size (drop (size t) t) → Clean size t

-- bytes that are all erased
pub all_erased : (s : Bytes) → length s ≤ erased_end s → s ≡ replicate (length s) ERASED
unfolding erased_end
all_erased [] h = refl
all_erased (b ∷ s) h = go (eqb (erased_end s) (length s) && eqb b ERASED) refl h (all_erased s)
  where
    go : (t : Bool) → (eqb (erased_end s) (length s) && eqb b ERASED) ≡ t → suc (length s) ≤ cond t (suc (erased_end s)) (erased_end s)
        → (length s ≤ erased_end s → s ≡ replicate (length s) ERASED) → b ∷ s ≡ replicate (suc (length s)) ERASED
    go true e g ih =
        let q = eqb-true b ERASED (and_right (eqb (erased_end s) (length s)) (eqb b ERASED) e) in
        let w = ih (omega arith) in
        λ i. q i ∷ w i
    go false e g ih = absurd (omega (arith, erased_end_le s))

pub erased_all : (n : ℕ) → erased_end (replicate n ERASED) ≡ n
unfolding erased_end
erased_all zero = refl
erased_all (suc n) = rw (erased_all n, length-replicate n ERASED, eq-eqb n n refl)

-- no damage in n bytes: there are none
none_damaged : (p n : ℕ) → damaged_bytes p n ≡ [] → n ≡ 0
unfolding damaged_bytes
none_damaged p zero e = refl
none_damaged p (suc n) e = let z : ◌≡◌ {A = ℕ} 0 1 = cc in absurd (omega arith)

-- a skipped byte without damage is one of the erased bytes at the end
skip_clean : (p b : ℕ) (l : List Part) → damaged p (skip b l) ≡ [] → (s : Bytes) × (skip b l ≡ stretch s ∷ []) × (length s ≤ erased_end s)
unfolding skip damaged
skip_clean p b [] e = (b ∷ [], refl, omega (arith, none_damaged p (1 - erased_end (b ∷ [])) e))
skip_clean p b (taken r ∷ l) e = let z : ◌≡◌ {A = ℕ} 0 1 = cc in absurd (omega arith)
skip_clean p b (stretch s ∷ []) e = (b ∷ s, refl, omega (arith, none_damaged p (length (b ∷ s) - erased_end (b ∷ s)) e))
skip_clean p b (stretch s ∷ q ∷ l) e = let z : ◌≡◌ {A = ℕ} 0 1 = cc in absurd (omega arith)

module _ (size : Acceptor) (ok : Lawful size) where
  -- bytes that reading makes one stretch of are that stretch
  tail_clean : (t s : Bytes) → parts size t 0 ≡ stretch s ∷ [] → length s ≤ erased_end s → Clean size t
  unfolding joined
  tail_clean t s q l =
      let w : s ≡ t = sym (append-nil s) ∙ sym (ap joined q) ∙ parts_joined size ok.inside t 0 (omega arith) in
      free (length s) (sym w ∙ all_erased s l)

  shape : (k p : ℕ) (t : Bytes) → length t ≤ k → damaged p (parts size t 0) ≡ [] → Clean size t
  unfolding damaged parts
  shape zero p [] h e = free 0 refl
  shape zero p (b ∷ t) h e = absurd (omega arith)
  shape (suc k) p [] h e = free 0 refl
  shape (suc k) p (b ∷ t) h e = go (size (b ∷ t)) refl (λ p t. shape k p t)
    where
      go : (n : ℕ) → size (b ∷ t) ≡ n → ((p : ℕ) (t : Bytes) → length t ≤ k → damaged p (parts size t 0) ≡ [] → Clean size t) → Clean size (b ∷ t)
      go zero q ih =
          let m : parts size (b ∷ t) 0 ≡ skip b (parts size t 0) = rw (q, parts) in
          let c = skip_clean p b (parts size t 0) (rw m at e) in
          tail_clean (b ∷ t) c.0 (m ∙ c.1) c.2
      go (suc n) q ih =
          let l = ok.inside (b ∷ t) in
          let m = parts_take size (b ∷ t) (suc n) q (omega arith) (omega arith) in
          next {t = b ∷ t} (omega arith) (rw q (ih (p + length (take (suc n) (b ∷ t))) (drop n t) (omega (arith, length-drop n t)) (rw m at e)))

  -- no damage, and only then
  pub clean_shape : (p : ℕ) (t : Bytes) → damaged p (parts size t 0) ≡ [] → Clean size t
  clean_shape p t e = shape (length t) p t (omega arith) e

  erased_parts : (n : ℕ) → parts size (replicate n ERASED) 0 ≡ passed (replicate n ERASED) []
  erased_parts n =
      let l = length-replicate n ERASED in
      parts_pass size n (replicate n ERASED) (omega arith) (λ j h. ok.blank (drop j (replicate n ERASED)) (inr (erased_at n j h)))
      ∙ rw (take_all n (replicate n ERASED) (omega arith), drop_of_length-le (replicate n ERASED) {i = n} (omega arith), parts_none size)
    where
      erased_at : (n j : ℕ) → j < n → get_or (drop j (replicate n ERASED)) 0 0 ≡ ERASED
      erased_at n j h = get_or-drop j (replicate n ERASED) 0 0 ∙ get_or-replicate n (j + 0) ERASED 0 (omega arith)

  pub clean_damage : (p : ℕ) {t : Bytes} → Clean size t → damaged p (parts size t 0) ≡ []
  unfolding damaged damaged_bytes
  clean_damage p (free n e) =
      let l = length-replicate n ERASED in
      rw (e, erased_parts n, damaged_last p (replicate n ERASED), erased_all n, l, sub_self n)
  clean_damage p {t} (next h c) =
      rw (parts_take size t (size t) refl h (ok.inside t)) (clean_damage (p + length (take (size t) t)) c)

  -- erased bytes hold no record
  pub erased_records : (p n : ℕ) → placed p (parts size (replicate n ERASED) 0) ≡ []
  erased_records p n = rw (erased_parts n) (placed_passed p (replicate n ERASED) [] ∙ placed_none (p + length (replicate n ERASED)))

  pub area_clean_lem : (area : Bytes) → area_clean size area ≡ true → Clean size (drop area_header_size area)
  unfolding area_clean area_damage area_parts
  area_clean_lem area e = clean_shape area_header_size (drop area_header_size area) (no_members _ (eqb-true _ 0 e))
    where
      no_members : (l : List Stretch) → length l ≡ 0 → l ≡ []
      no_members [] q = refl
      no_members (d ∷ l) q = absurd (omega arith)

  pub clean_area : (area : Bytes) → Clean size (drop area_header_size area) → area_clean size area ≡ true
  unfolding area_clean area_damage area_parts
  clean_area area c = rw (clean_damage area_header_size c)
