-- A good path, told by its test, is one that spells good names; those are its names.
use Rattle.std.specs.Prelude.{ℕ, ◌≤◌, ◌≡◌, refl, ◌≢◌, Bool, true, false, cond, not, ◌&&◌, length, T, eqb, leb}
use Rattle.std.proofs.Common.{sym, ap, ◌∙◌, inl, inr, arith, length-append, leb→le, le→leb, T_not, eqb-true}
use mathlib.Core.List.{List, [], ◌∷◌, ◌++◌, Memᴰ}
use Rattle.std.proofs.Math.Dec.{not_T}
use Rattle.format.specs.Bytes.{Bytes}
use Rattle.volume.specs.Lists.{all}
use Rattle.volume.specs.Path.{SLASH, longest_name, longest_path, split_byte, segments, good_segment, good_segments, is_absolute, absolute_names}
use Rattle.volume.specs.Path.{good_absolute}
use Rattle.volume.specs.Path.{good_relative, good_path, path_names}
use Rattle.volume_laws.specs.Tests.{true→T, T→true, and_T, T_and, eqb_differ}
use Rattle.volume_laws.specs.Lists.{all_mem, mem_all}
use Rattle.demand2.specs.Names.{segment_byte}
use Rattle.demand1.specs.Table.{parted, IsName, Absolute, Relative, Named, BadPath}
use Rattle.demand1.specs.Mounting.{Means}

-- ---- segments

-- there is one at least
segments_some : (l : Bytes) → (q : Bytes) × (qs : List Bytes) × (segments l ≡ q ∷ qs)
unfolding segments split_byte
segments_some [] = ([], [], refl)
segments_some (b ∷ l) = go (segments_some l)
  where
    go : (q : Bytes) × (qs : List Bytes) × (segments l ≡ q ∷ qs) → (q : Bytes) × (qs : List Bytes) × (split_byte b (segments l) ≡ q ∷ qs)
    go s = rw s.2 (at (eqb b SLASH))
      where
        at : (t : Bool) → (q : Bytes) × (qs : List Bytes) × (cond t ([] ∷ s.0 ∷ s.1) ((b ∷ s.0) ∷ s.1) ≡ q ∷ qs)
        at true = ([], s.0 ∷ s.1, refl)
        at false = (b ∷ s.0, s.1, refl)

-- parted they are the path
parted_segments : (p : Bytes) → parted (segments p) ≡ p
unfolding parted segments split_byte
parted_segments [] = refl
parted_segments (b ∷ l) = go (segments_some l) (parted_segments l)
  where
    longer : (q : Bytes) (qs : List Bytes) → parted ((b ∷ q) ∷ qs) ≡ b ∷ parted (q ∷ qs)
    longer q [] = refl
    longer q (r ∷ qs) = refl

    go : (q : Bytes) × (qs : List Bytes) × (segments l ≡ q ∷ qs) → parted (segments l) ≡ l → parted (split_byte b (segments l)) ≡ b ∷ l
    go s ih = rw s.2 (at (eqb b SLASH) refl (rw s.2 at ih))
      where
        at : (t : Bool) → eqb b SLASH ≡ t → parted (s.0 ∷ s.1) ≡ l → parted (cond t ([] ∷ s.0 ∷ s.1) ((b ∷ s.0) ∷ s.1)) ≡ b ∷ l
        at true e q = let z = eqb-true b SLASH e in λ i. sym z i ∷ q i
        at false e q = longer s.0 s.1 ∙ ap (λ (x : Bytes). b ∷ x) q

-- a name without a slash is one segment
segments_name : (n : Bytes) → ¬ Memᴰ SLASH n → segments n ≡ n ∷ []
unfolding segments split_byte
segments_name [] h = refl
segments_name (b ∷ n) h =
    rw (segments_name n (λ m. h (mathlib.Core.List.Memᴰ.tail m)), eqb_differ b SLASH (λ e. h (mathlib.Core.List.Memᴰ.head (sym e))))

segments_front : (n rest : Bytes) → ¬ Memᴰ SLASH n → segments (n ++ (SLASH ∷ rest)) ≡ n ∷ segments rest
unfolding segments split_byte
segments_front [] rest h = let s = segments_some rest in rw s.2
segments_front (b ∷ n) rest h =
    rw (segments_front n rest (λ m. h (mathlib.Core.List.Memᴰ.tail m)), eqb_differ b SLASH (λ e. h (mathlib.Core.List.Memᴰ.head (sym e))))

-- names parted have those names for segments
segments_parted : (ns : List Bytes) → ns ≢ [] → ((n : Bytes) → Memᴰ n ns → ¬ Memᴰ SLASH n) → segments (parted ns) ≡ ns
unfolding parted
segments_parted [] h k = absurd (h refl)
segments_parted (n ∷ []) h k = segments_name n (k n (mathlib.Core.List.Memᴰ.head refl))
segments_parted (n ∷ m ∷ ns) h k =
    segments_front n (parted (m ∷ ns)) (k n (mathlib.Core.List.Memᴰ.head refl))
    ∙ ap (λ (l : List Bytes). n ∷ l) (segments_parted (m ∷ ns) (λ e. let z : length (m ∷ ns) ≡ 0 = ap length e in omega arith)
    (λ x q. k x (mathlib.Core.List.Memᴰ.tail q)))

-- ---- names

name_test : (n : Bytes) → T (good_segment n) → ¬ Memᴰ SLASH n → IsName n
unfolding good_segment
name_test n t h =
    let s = and_T (leb 1 (length n) && leb (length n) longest_name) (all (λ b. not (eqb b 0)) n) t in
    let u = and_T (leb 1 (length n)) (leb (length n) longest_name) s.0 in
    record {
      size = (leb→le 1 (length n) u.0, leb→le (length n) longest_name u.1);
      no_slash = h;
      no_nul = λ m. T_not (eqb 0 0) (all_mem (λ b. not (eqb b 0)) n s.1 m) tt;
    }

test_name : (n : Bytes) → IsName n → T (good_segment n)
unfolding good_segment
test_name n i =
    T_and (leb 1 (length n) && leb (length n) longest_name) (all (λ b. not (eqb b 0)) n)
    (T_and (leb 1 (length n)) (leb (length n) longest_name) (le→leb 1 (length n) i.size.0) (le→leb (length n) longest_name i.size.1))
    (mem_all (λ b. not (eqb b 0)) n (λ b m. not_T (eqb b 0) (λ t. i.no_nul (rw (eqb-true b 0 (T→true t)) at m))))

-- the segments of some bytes that pass the test are names
segments_named : (l : Bytes) → T (good_segments (segments l)) → (n : Bytes) → Memᴰ n (segments l) → IsName n
unfolding good_segments
segments_named l t n m = name_test n (all_mem good_segment (segments l) t m) (λ k. (segment_byte l n m SLASH k).1 refl)

named_test : (ns : List Bytes) → ((n : Bytes) → Memᴰ n ns → IsName n) → T (good_segments ns)
unfolding good_segments
named_test ns h = mem_all good_segment ns (λ n m. test_name n (h n m))

-- names parted are some bytes
parted_some : (n : Bytes) (ns : List Bytes) → IsName n → 1 ≤ length (parted (n ∷ ns))
unfolding parted
parted_some n [] i = i.size.0
parted_some n (m ∷ ns) i = omega (arith, i.size.0, length-append n (SLASH ∷ parted (m ∷ ns)))

-- ---- absolute paths

absolute_names_lem : (b : ℕ) (q : Bytes) → 1 ≤ length q → absolute_names (b ∷ q) ≡ segments q
unfolding absolute_names
absolute_names_lem b [] h = absurd (omega arith)
absolute_names_lem b (c ∷ l) h = refl

absolute_test_lem : (p : Bytes) → good_absolute p ≡ true → Absolute p (absolute_names p)
unfolding good_absolute is_absolute absolute_names parted good_segments
absolute_test_lem [] e = let z : ◌≡◌ {A = ℕ} 0 1 = cc in absurd (omega arith)
absolute_test_lem (b ∷ []) e =
    let s = and_T (eqb b SLASH && leb (length (b ∷ [])) longest_path) (all good_segment []) (true→T e) in
    let z = eqb-true b SLASH (T→true (and_T (eqb b SLASH) (leb (length (b ∷ [])) longest_path) s.0).0) in
    record { short = omega arith; spelt = λ i. z i ∷ []; named = λ n m. absurd (mathlib.Core.List.Memᴰ.not-nil m) }
absolute_test_lem (b ∷ c ∷ l) e =
    let s = and_T (eqb b SLASH && leb (length (b ∷ c ∷ l)) longest_path) (all good_segment (segments (c ∷ l))) (true→T e) in
    let u = and_T (eqb b SLASH) (leb (length (b ∷ c ∷ l)) longest_path) s.0 in
    let z = eqb-true b SLASH (T→true u.0) in
    let q = parted_segments (c ∷ l) in
    record {
      short = leb→le (length (b ∷ c ∷ l)) longest_path u.1;
      spelt = λ i. z i ∷ sym q i;
      named = segments_named (c ∷ l) s.1;
    }

-- the names that it spells are its names
absolute_named : (p : Bytes) (ns : List Bytes) → Absolute p ns → absolute_names p ≡ ns
unfolding absolute_names parted
absolute_named p [] a = rw a.spelt
absolute_named p (n ∷ ns) a =
    ap absolute_names a.spelt
    ∙ absolute_names_lem SLASH (parted (n ∷ ns)) (parted_some n ns (a.named n (mathlib.Core.List.Memᴰ.head refl)))
    ∙ segments_parted (n ∷ ns) (λ e. let z : length (n ∷ ns) ≡ 0 = ap length e in omega arith) (λ x m. (a.named x m).no_slash)

leads_slash : (p ns : Bytes) → p ≡ SLASH ∷ ns → is_absolute p ≡ true
unfolding is_absolute
leads_slash p ns e = rw e

test_absolute : (p : Bytes) (ns : List Bytes) → Absolute p ns → good_absolute p ≡ true
unfolding good_absolute
test_absolute p ns a = rw (
  leads_slash p (parted ns) a.spelt,
  T→true {b = leb (length p) longest_path} (le→leb (length p) longest_path a.short),
  absolute_named p ns a,
  T→true {b = good_segments ns} (named_test ns a.named),
)

-- ---- relative paths

relative_test_lem : (p : Bytes) → good_relative p ≡ true → Relative p (segments p)
unfolding good_relative
relative_test_lem p e =
    let s = and_T (leb (length p) longest_path) (good_segments (segments p)) (true→T e) in
    let q = segments_some p in
    record {
      short = leb→le (length p) longest_path s.0;
      spelt = sym (parted_segments p);
      some_name = λ z. let y : length (segments p) ≡ 0 = ap length z in omega (arith, ap length q.2);
      named = segments_named p s.1;
    }

relative_named : (p : Bytes) (ns : List Bytes) → Relative p ns → segments p ≡ ns
relative_named p ns r = ap segments r.spelt ∙ segments_parted ns r.some_name (λ n m. (r.named n m).no_slash)

test_relative : (p : Bytes) (ns : List Bytes) → Relative p ns → good_relative p ≡ true
unfolding good_relative
test_relative p ns r = rw (
  T→true {b = leb (length p) longest_path} (le→leb (length p) longest_path r.short),
  relative_named p ns r,
  T→true {b = good_segments ns} (named_test ns r.named),
)

-- it has no leading slash: its first name would have no byte
no_leading : (p : Bytes) (ns : List Bytes) → Relative p ns → is_absolute p ≡ false
unfolding is_absolute
no_leading [] ns r = refl
no_leading (b ∷ l) ns r = go (eqb b SLASH) refl
  where
    nameless : b ≡ SLASH → ⊥
    nameless z =
        let q : ns ≡ [] ∷ segments l
        = sym (relative_named (b ∷ l) ns r) ∙ ap (λ (x : ℕ). segments (x ∷ l)) z ∙ segments_front [] l mathlib.Core.List.Memᴰ.not-nil in
        let m : Memᴰ [] ns = rw q (mathlib.Core.List.Memᴰ.head refl) in
        omega (arith, (r.named [] m).size.0)

    go : (t : Bool) → eqb b SLASH ≡ t → eqb b SLASH ≡ false
    go true e = absurd (nameless (eqb-true b SLASH e))
    go false e = e

-- ---- paths

named_good : (base p : Bytes) (ns : List Bytes) → Named base p ns → good_path base p ≡ true
unfolding good_path
named_good base p ns (inl a) = rw (leads_slash p (parted ns) a.spelt, test_absolute p ns a)
named_good base p ns (inr a) = rw (no_leading p a.1 a.3, test_absolute base a.0 a.2, test_relative p a.1 a.3)

pub named_names : (base p : Bytes) (ns : List Bytes) → Named base p ns → path_names base p ≡ ns
unfolding path_names
named_names base p ns (inl a) = rw (leads_slash p (parted ns) a.spelt) (absolute_named p ns a)
named_names base p ns (inr a) =
    rw (no_leading p a.1 a.3, absolute_named base a.0 a.2, relative_named p a.1 a.3) (sym a.4)

good_named : (base p : Bytes) → good_path base p ≡ true → Named base p (path_names base p)
unfolding good_path path_names
good_named base p e = go (is_absolute p) e
  where
    go : (t : Bool) → cond t (good_absolute p) (good_absolute base && good_relative p) ≡ true
        → Named base p (cond t (absolute_names p) (absolute_names base ++ segments p))
    go true e = inl (absolute_test_lem p e)
    go false e =
        let s = and_T (good_absolute base) (good_relative p) (true→T e) in
        inr (absolute_names base, segments p, absolute_test_lem base (T→true s.0), relative_test_lem p (T→true s.1), refl)

-- "8: bad path or name"
pub path_means : (base p : Bytes) → Means (not (good_path base p)) (BadPath base p)
path_means base p = go (good_path base p) refl
  where
    go : (t : Bool) → good_path base p ≡ t → Means (not t) (BadPath base p)
    go true e = ((λ z. let y : ◌≡◌ {A = ℕ} 0 1 = cc in absurd (omega arith)), (λ z h. h (path_names base p, good_named base p e)))
    go false e = (
      (λ z h. let w = named_good base p h.0 h.1 in let y : ◌≡◌ {A = ℕ} 0 1 = cc in omega arith),
      (λ z. let y : ◌≡◌ {A = ℕ} 0 1 = cc in absurd (omega arith)),
    )
