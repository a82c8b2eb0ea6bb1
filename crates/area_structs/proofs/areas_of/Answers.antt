use Rattle.std.proofs.Common.{◌≡◌, ℕ, ◌+◌, ◌≤◌, ◌<◌, List, length, get_or, take, drop, replicate, sym, ap, ◌∙◌, drop-cons, drop_of_length-le, add-one, lt-ltb, le-ltb, eq-eqb, ne_eqb, arith}
use Rattle.calls.specs.Areas.{listed}
use Rattle.calls.specs.declared.Descriptor.{Descriptor}
use Rattle.area_list.specs.Numbers.{area_list}
use Rattle.area_structs.specs.Entries.{most_entries, most_numbers, added, pick, go_on, areas_of}
use Rattle.area_structs.specs.Numbers.{areas_listed}
use Rattle.area_structs.specs.declared.Areas.{Areas}
use Rattle.area_structs.proofs.areas_of.Goals.{then-d-eq0-via-then-d-eq0, then-d-eq0-via-else-d-eq0+then-i-eq-ENTRIES}
use Rattle.area_structs.proofs.areas_of.Goals as goal

abbrev nothing : Descriptor
nothing = record { offset = 0; length = 0 }

-- one entry of the list
module _ (ys : List Descriptor) (i : ℕ) (xs : List ℕ) (less : i < length ys) where
  at : go_on (drop i ys) i xs ≡ pick i (get_or ys i nothing) (go_on (drop (i + 1) ys) (i + 1) (added xs i (get_or ys i nothing))) xs
  unfolding go_on
  at = rw (drop-cons ys i nothing less, add-one i)

  goes : ((get_or ys i nothing).length ≡ 0 → ⊥) → i < most_entries → go_on (drop (i + 1) ys) (i + 1) (added xs i (get_or ys i nothing)) ≡ go_on (drop i ys) i xs
  goes e h = sym (at ∙ rw (ne_eqb _ _ e, lt-ltb _ _ h))

  ends : (get_or ys i nothing).length ≡ 0 → go_on (drop i ys) i xs ≡ xs
  ends e = at ∙ rw (eq-eqb _ _ e)

  full : ((get_or ys i nothing).length ≡ 0 → ⊥) → most_entries ≤ i → go_on (drop i ys) i xs ≡ xs
  full e h = at ∙ rw (ne_eqb _ _ e, le-ltb _ _ h)

passed : (ys : List Descriptor) (i : ℕ) (xs : List ℕ) → length ys ≤ i → go_on (drop i ys) i xs ≡ xs
unfolding go_on
passed ys i xs h = rw (drop_of_length-le ys h)

-- where nothing more is copied, the numbers are those of the list
whole : (ys : List Descriptor) (i : ℕ) (xs : List ℕ) → go_on (drop i ys) i xs ≡ go_on ys 0 (replicate most_numbers 0) → go_on (drop i ys) i xs ≡ xs
    → (record { numbers = xs } ≡ areas_of ys) × (area_list xs ≡ take most_entries (listed ys))
unfolding areas_of
whole ys i xs so_far e =
    let n : xs ≡ go_on ys 0 (replicate most_numbers 0) = sym e ∙ so_far in
    (ap (λ (l : List ℕ). let a : Areas = record { numbers = l } in a) n, ap area_list n ∙ areas_listed ys)

pub loop-i-preserved : goal.loop-i-preserved
loop-i-preserved c =
    let l = c.args.list.now in
    (omega arith, goes l c.loop-i.i c.loop-i.numbers c.loop-i-test.true c.if-d-eq0.false (omega arith) ∙ c.loop-i.invariant.1)

pub returns-after-loop-i : goal.returns-after-loop-i
returns-after-loop-i c = whole c.args.list.now c.loop-i.i c.loop-i.numbers c.loop-i.invariant.1 (passed _ _ _ c.loop-i-test.false)

pub returns-then-d-eq0 : goal.returns-then-d-eq0
returns-then-d-eq0 c =
    let l = c.args.list.now in
    whole l c.loop-i.i c.loop-i.numbers c.loop-i.invariant.1
    (elim c.then-d-eq0.branch [
      | then-d-eq0-via-then-d-eq0 w ↦ ends l c.loop-i.i c.loop-i.numbers c.loop-i-test.true w.if-d-eq0.true
      | then-d-eq0-via-else-d-eq0+then-i-eq-ENTRIES w ↦ full l c.loop-i.i c.loop-i.numbers c.loop-i-test.true w.if-d-eq0.false (omega arith)
    ])
