-- The numbers that a list is copied into stand for its entries before its end, as many as there is room for.
use Rattle.std.specs.Prelude.{ℕ, zero, suc, ◌+◌, ◌*◌, ◌≤◌, ◌<◌, ◌≡◌, refl, ◌≢◌, List, [], ◌∷◌, ◌++◌, Bool, true, false, cond, length, take, replicate, set, eqb, ltb}
use Rattle.std.proofs.Common.{sym, ap, ◌∙◌, append_assoc, arith, length-append, ltb-true, ltb-false, ne_eqb}
use Rattle.std.proofs.lemmas.Bool.{eqb-false}
use Rattle.calls.specs.Areas.{listed}
use Rattle.area_list.specs.Numbers.{paired, area_list}
use Rattle.calls.specs.declared.Descriptor.{Descriptor}
use Rattle.area_structs.specs.Entries.{most_entries, most_numbers, added, go_on, areas_of}

-- entries as numbers, and so many zeros
unfoldable flat : List Descriptor → List ℕ
flat [] = []
flat (d ∷ ds) = d.offset ∷ d.length ∷ flat ds

abbrev zeros : ℕ → List ℕ
zeros n = replicate n 0

flat_length : (es : List Descriptor) → length (flat es) ≡ length es * 2
unfolding flat
flat_length [] = refl
flat_length (d ∷ es) = omega (arith, flat_length es)

flat_snoc : (es : List Descriptor) (d : Descriptor) (l : List ℕ) → flat (es ++ (d ∷ [])) ++ l ≡ flat es ++ (d.offset ∷ d.length ∷ l)
unfolding flat
flat_snoc [] d l = refl
flat_snoc (e ∷ es) d l = ap (λ (x : List ℕ). e.offset ∷ e.length ∷ x) (flat_snoc es d l)

-- the place behind the first ones
set_behind : (xs ys : List ℕ) (y v n : ℕ) → n ≡ length xs → set (xs ++ (y ∷ ys)) n v ≡ xs ++ (v ∷ ys)
set_behind [] ys y v n e = rw e
set_behind (x ∷ xs) ys y v zero e = absurd (omega arith)
set_behind (x ∷ xs) ys y v (suc n) e = ap (λ (l : List ℕ). x ∷ l) (set_behind xs ys y v n (omega arith))

-- none of the entries ends the list
unfoldable AllLong : List Descriptor → Type 0
AllLong [] = Unit {0}
AllLong (d ∷ ds) = (d.length ≢ 0) × AllLong ds

long_snoc : (es : List Descriptor) (d : Descriptor) → AllLong es → d.length ≢ 0 → AllLong (es ++ (d ∷ []))
unfolding AllLong
long_snoc [] d a h = (h, tt)
long_snoc (e ∷ es) d a h = (a.0, long_snoc es d a.1 h)

zeros_end : (n : ℕ) → listed (paired (zeros n)) ≡ []
unfolding listed paired
zeros_end zero = refl
zeros_end (suc zero) = refl
zeros_end (suc (suc n)) = refl

flat_listed : (es : List Descriptor) (n : ℕ) → AllLong es → area_list (flat es ++ zeros n) ≡ es
unfolding flat AllLong listed paired
flat_listed [] n a = zeros_end n
flat_listed (d ∷ es) n a = rw (ne_eqb d.length 0 a.0, flat_listed es n a.1)

-- the entries es are copied, k of them
record Holds (k : ℕ) (xs : List ℕ) (es : List Descriptor) : Type 0 where
  count : k ≡ length es
  few : length es ≤ most_entries
  long : AllLong es
  left : ℕ
  room : left + length es * 2 ≡ most_numbers
  numbers : xs ≡ flat es ++ zeros left

holds_none : Holds 0 (zeros most_numbers) []
unfolding flat AllLong
holds_none = record { count = refl; few = omega arith; long = tt; left = most_numbers; room = refl; numbers = refl }

holds_added : (k : ℕ) (xs : List ℕ) (es : List Descriptor) (d : Descriptor) → Holds k xs es → k < most_entries → d.length ≢ 0 → Holds (k + 1) (added xs k d) (es ++ (d ∷ []))
holds_added k xs es d h c l = go h.left h.room h.numbers
  where
    go : (n : ℕ) → n + length es * 2 ≡ most_numbers → xs ≡ flat es ++ zeros n → Holds (k + 1) (added xs k d) (es ++ (d ∷ []))
    go zero r e = absurd (let q = h.count in omega arith)
    go (suc zero) r e = absurd (let q = h.count in omega arith)
    go (suc (suc n)) r e =
        let q = h.count in
        let m = length-append es (d ∷ []) in
        record {
          count = omega arith;
          few = omega arith;
          long = long_snoc es d h.long l;
          left = n;
          room = omega arith;
          numbers = ap (λ (x : List ℕ). added x k d) e
              ∙ ap (λ (x : List ℕ). set x (k * 2 + 1) d.length) (set_behind (flat es) (0 ∷ zeros n) 0 d.offset (k * 2) (omega (arith, flat_length es)))
              ∙ second n
              ∙ sym (flat_snoc es d (zeros n));
        }
      where
        second : (n : ℕ) → set (flat es ++ (d.offset ∷ 0 ∷ zeros n)) (k * 2 + 1) d.length ≡ flat es ++ (d.offset ∷ d.length ∷ zeros n)
        second n =
            let f : (v : ℕ) → (flat es ++ (d.offset ∷ [])) ++ (v ∷ zeros n) ≡ flat es ++ (d.offset ∷ v ∷ zeros n) = λ v. append_assoc (flat es) (d.offset ∷ []) (v ∷ zeros n) in
            ap (λ (x : List ℕ). set x (k * 2 + 1) d.length) (sym (f 0))
            ∙ set_behind (flat es ++ (d.offset ∷ [])) (zeros n) 0 d.length (k * 2 + 1)
            (let q = h.count in omega (arith, flat_length es, length-append (flat es) (d.offset ∷ [])))
            ∙ f d.length

take_all : (n : ℕ) (es : List Descriptor) → length es ≤ n → take n (es ++ []) ≡ es
take_all zero [] h = refl
take_all (suc n) [] h = refl
take_all zero (e ∷ es) h = absurd (omega arith)
take_all (suc n) (e ∷ es) h = ap (λ (x : List Descriptor). e ∷ x) (take_all n es (omega arith))

take_front : (n : ℕ) (es l : List Descriptor) → length es ≡ n → take n (es ++ l) ≡ es
take_front zero [] l h = refl
take_front zero (e ∷ es) l h = absurd (omega arith)
take_front (suc n) [] l h = absurd (omega arith)
take_front (suc n) (e ∷ es) l h = ap (λ (x : List Descriptor). e ∷ x) (take_front n es l (omega arith))

holds_listed : (k : ℕ) (xs : List ℕ) (es : List Descriptor) → Holds k xs es → area_list xs ≡ es
holds_listed k xs es h = ap area_list h.numbers ∙ flat_listed es h.left h.long

going : (list : List Descriptor) (k : ℕ) (xs : List ℕ) (es : List Descriptor) → Holds k xs es → area_list (go_on list k xs) ≡ take most_entries (es ++ listed list)
unfolding go_on listed
going [] k xs es h = holds_listed k xs es h ∙ sym (take_all most_entries es h.few)
going (d ∷ ds) k xs es h = go (eqb d.length 0) refl (ltb k most_entries) refl (λ g. going ds (k + 1) (added xs k d) (es ++ (d ∷ [])) g)
  where
    go : (p : Bool) → eqb d.length 0 ≡ p → (q : Bool) → ltb k most_entries ≡ q
        → (Holds (k + 1) (added xs k d) (es ++ (d ∷ [])) → area_list (go_on ds (k + 1) (added xs k d)) ≡ take most_entries ((es ++ (d ∷ [])) ++ listed ds))
        → area_list (cond p xs (cond q (go_on ds (k + 1) (added xs k d)) xs)) ≡ take most_entries (es ++ cond p [] (d ∷ listed ds))
    go true e q f ih = holds_listed k xs es h ∙ sym (take_all most_entries es h.few)
    go false e true f ih =
        ih (holds_added k xs es d h (ltb-true k most_entries f) (eqb-false d.length 0 e))
        ∙ ap (take most_entries) (append_assoc es (d ∷ []) (listed ds))
    go false e false f ih =
        let c = h.count in
        let g = h.few in
        holds_listed k xs es h ∙ sym (take_front most_entries es (d ∷ listed ds) (omega (arith, ltb-false k most_entries f)))

-- the array form of a list: its entries before its end, and no more than tell that there are too many
pub areas_listed : (list : List Descriptor) → area_list (areas_of list).numbers ≡ take most_entries (listed list)
unfolding areas_of
areas_listed list = going list 0 (zeros most_numbers) [] holds_none
