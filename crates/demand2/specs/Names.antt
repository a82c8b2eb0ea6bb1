-- The names of a good path are names that an inode may bear.
use Rattle.std.specs.Prelude.{ℕ, ◌≤◌, ◌<◌, ◌≡◌, refl, ◌⊎◌, ◌≢◌, Bool, true, false, cond, not, ◌&&◌, length, T, eqb, leb}
use Rattle.std.proofs.Common.{sym, ◌∙◌, inl, inr, ⊎_elim, arith, leb→le, T_not}
use mathlib.Core.List.Memᴰ
use mathlib.Core.List.{List, [], ◌∷◌, ◌++◌, Memᴰ}
use Rattle.format.specs.Bytes.{Bytes}
use Rattle.format.specs.Record.{name_good}
use Rattle.format_laws.specs.Crc.{Octets}
use Rattle.format_laws.specs.Octets.{octet, octets}
use Rattle.volume.specs.Lists.{all}
use Rattle.volume.specs.Path.{SLASH, longest_path, longest_name, split_byte, segments, good_segment, good_segments, is_absolute, absolute_names, good_absolute}
use Rattle.volume.specs.Path.{good_relative, good_path, path_names}
use Rattle.volume_laws.specs.Tests.{true→T, and_T, eqb_false, eqb_differ}
use Rattle.volume_laws.specs.Lists.{all_mem}
use Rattle.calls.specs.Create.{last_name, names_before}

-- ---- segments

-- a byte of a segment is the one in front, or of one of the segments behind it
Origin : ℕ → List Bytes → ℕ → Type 0
Origin b ps x = ((x ≡ b) × (b ≢ SLASH)) ⊎ ((q : Bytes) × Memᴰ q ps × Memᴰ x q)

nobody_in : {n : Bytes} {x : ℕ} → n ≡ [] → Memᴰ x n → ⊥
nobody_in e k = Memᴰ.not-nil (rw e at k)

split_byte_lem : (b : ℕ) (ps : List Bytes) (n : Bytes) → Memᴰ n (split_byte b ps) → (x : ℕ) → Memᴰ x n → Origin b ps x
unfolding split_byte Origin
split_byte_lem b [] n m x k = go (eqb b SLASH) refl m
  where
    go : (t : Bool) → eqb b SLASH ≡ t → Memᴰ n (cond t ([] ∷ [] ∷ []) ((b ∷ []) ∷ []))
        → ((x ≡ b) × (b ≢ SLASH)) ⊎ ((q : Bytes) × Memᴰ q [] × Memᴰ x q)
    go true e m = ⊎_elim (λ q. absurd (nobody_in q k)) (λ m. absurd (nobody_in (Memᴰ.eq_of_singleton m) k)) (Memᴰ.cases_cons m)
    go false e m = let q : n ≡ b ∷ [] = Memᴰ.eq_of_singleton m in inl (Memᴰ.eq_of_singleton (rw q at k), eqb_false b SLASH e)
split_byte_lem b (p ∷ ps) n m x k = go (eqb b SLASH) refl m
  where
    go : (t : Bool) → eqb b SLASH ≡ t → Memᴰ n (cond t ([] ∷ p ∷ ps) ((b ∷ p) ∷ ps))
        → ((x ≡ b) × (b ≢ SLASH)) ⊎ ((q : Bytes) × Memᴰ q (p ∷ ps) × Memᴰ x q)
    go true e m = ⊎_elim (λ q. absurd (nobody_in q k)) (λ m. inr (n, m, k)) (Memᴰ.cases_cons m)
    go false e m = ⊎_elim
        (λ q. ⊎_elim (λ z. inl (z, eqb_false b SLASH e)) (λ z. inr (p, Memᴰ.head refl, z)) (Memᴰ.cases_cons (rw q at k)))
        (λ m. inr (n, Memᴰ.tail m, k)) (Memᴰ.cases_cons m)

-- a byte of a segment is one of the path's, and no slash
pub segment_byte : (l n : Bytes) → Memᴰ n (segments l) → (x : ℕ) → Memᴰ x n → Memᴰ x l × (x ≢ SLASH)
unfolding segments Origin
segment_byte [] n m x k = absurd (nobody_in (Memᴰ.eq_of_singleton m) k)
segment_byte (b ∷ l) n m x k = ⊎_elim
    (λ z. (Memᴰ.head z.0, λ e. z.1 (sym z.0 ∙ e)))
    (λ z. let h = segment_byte l z.0 z.1 x z.2 in (Memᴰ.tail h.0, h.1)) (split_byte_lem b (segments l) n m x k)

-- ---- the names of a path

absolute_byte : (p n : Bytes) → Memᴰ n (absolute_names p) → (x : ℕ) → Memᴰ x n → Memᴰ x p × (x ≢ SLASH)
unfolding absolute_names
absolute_byte [] n m x k = absurd (Memᴰ.not-nil m)
absolute_byte (b ∷ []) n m x k = absurd (Memᴰ.not-nil m)
absolute_byte (b ∷ c ∷ l) n m x k = let h = segment_byte (c ∷ l) n m x k in (Memᴰ.tail h.0, h.1)

name_byte : (base p n : Bytes) → Memᴰ n (path_names base p) → (x : ℕ) → Memᴰ x n → (Memᴰ x base ⊎ Memᴰ x p) × (x ≢ SLASH)
unfolding path_names
name_byte base p n m x k = go (is_absolute p) m
  where
    go : (t : Bool) → Memᴰ n (cond t (absolute_names p) (absolute_names base ++ segments p)) → (Memᴰ x base ⊎ Memᴰ x p) × (x ≢ SLASH)
    go true m = let h = absolute_byte p n m x k in (inr h.0, h.1)
    go false m = ⊎_elim (λ m. let h = absolute_byte base n m x k in (inl h.0, h.1)) (λ m. let h = segment_byte p n m x k in (inr h.0, h.1))
        (Memᴰ.append_cases (absolute_names base) m)

pub name_octets : (base p : Bytes) → Octets base → Octets p → (n : Bytes) → Memᴰ n (path_names base p) → Octets n
name_octets base p ob op n m = octets n (λ x k. ⊎_elim (octet base ob) (octet p op) (name_byte base p n m x k).0)

-- the tests of `good_absolute` and `good_relative`
abbrev absolute_test : Bytes → Bool
absolute_test q = is_absolute q && leb (length q) longest_path && all good_segment (absolute_names q)

abbrev relative_test : Bytes → Bool
relative_test p = leb (length p) longest_path && all good_segment (segments p)

name_segment : (base p : Bytes) → good_path base p ≡ true → (n : Bytes) → Memᴰ n (path_names base p) → T (good_segment n)
unfolding good_path path_names good_absolute good_relative good_segments
name_segment base p g n m = go (is_absolute p) (true→T g) m
  where
    absolute : (q : Bytes) → T (absolute_test q) → Memᴰ n (absolute_names q) → T (good_segment n)
    absolute q t m = all_mem good_segment (absolute_names q) (and_T (is_absolute q && leb (length q) longest_path) (all good_segment (absolute_names q)) t).1 m

    relative : T (relative_test p) → Memᴰ n (segments p) → T (good_segment n)
    relative t m = all_mem good_segment (segments p) (and_T (leb (length p) longest_path) (all good_segment (segments p)) t).1 m

    go : (t : Bool) → T (cond t (absolute_test p) (absolute_test base && relative_test p))
        → Memᴰ n (cond t (absolute_names p) (absolute_names base ++ segments p)) → T (good_segment n)
    go true g m = absolute p g m
    go false g m =
        let s = and_T (absolute_test base) (relative_test p) g in
        ⊎_elim (absolute base s.0) (relative s.1) (Memᴰ.append_cases (absolute_names base) m)

-- what an inode asks of a name
pub record GoodName (n : Bytes) : Type 0 where
  pub some_bytes : 1 ≤ length n
  pub fits : length n < 256
  pub good : name_good n ≡ true
  pub octets : Octets n

name_good_lem : (n : Bytes) → ((x : ℕ) → Memᴰ x n → (x ≢ 0) × (x ≢ SLASH)) → name_good n ≡ true
unfolding name_good
name_good_lem [] h = refl
name_good_lem (b ∷ n) h =
    let e = h b (Memᴰ.head refl) in
    rw (eqb_differ b 0 e.0, eqb_differ b SLASH e.1) (name_good_lem n (λ x m. h x (Memᴰ.tail m)))

pub good_name : (base p : Bytes) → Octets base → Octets p → good_path base p ≡ true → (n : Bytes) → Memᴰ n (path_names base p) → GoodName n
unfolding good_segment
good_name base p ob op g n m =
    let s = and_T (leb 1 (length n) && leb (length n) longest_name) (all (λ b. not (eqb b 0)) n) (name_segment base p g n m) in
    let t = and_T (leb 1 (length n)) (leb (length n) longest_name) s.0 in
    record {
      some_bytes = leb→le 1 (length n) t.0;
      fits = omega (arith, leb→le (length n) longest_name t.1);
      good = name_good_lem n (λ x k. (λ e. T_not (eqb x 0) (all_mem (λ b. not (eqb b 0)) n s.1 k) (rw e tt), (name_byte base p n m x k).1));
      octets = name_octets base p ob op n m;
    }

-- ---- the last name

pub names_split : (ns : List Bytes) → length ns ≢ 0 → ns ≡ names_before ns ++ (last_name ns ∷ [])
unfolding names_before last_name
names_split [] h = absurd (h refl)
names_split (n ∷ []) h = refl
names_split (n ∷ m ∷ ns) h = let e = names_split (m ∷ ns) (λ z. omega arith) in λ i. n ∷ e i

-- the names before one more
pub names_before_lem : (ns : List Bytes) (n : Bytes) → names_before (ns ++ (n ∷ [])) ≡ ns
unfolding names_before
names_before_lem [] n = refl
names_before_lem (m ∷ []) n = refl
names_before_lem (m ∷ o ∷ ns) n = let e = names_before_lem (o ∷ ns) n in λ i. m ∷ e i

pub last_mem : (ns : List Bytes) → length ns ≢ 0 → Memᴰ (last_name ns) ns
unfolding last_name
last_mem [] h = absurd (h refl)
last_mem (n ∷ []) h = Memᴰ.head refl
last_mem (n ∷ m ∷ ns) h = Memᴰ.tail (last_mem (m ∷ ns) (λ z. omega arith))
