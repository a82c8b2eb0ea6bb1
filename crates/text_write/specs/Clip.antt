-- Bytes written into a buffer as far as they fit.
use Rattle.std.specs.Prelude.{ℕ, suc, ◌+◌, ◌-◌, ◌≤◌, ◌<◌, ◌≡◌, refl, [], ◌∷◌, ◌++◌, Bool, true, false, length, take, drop, set, replicate, leb}
use Rattle.std.proofs.Common.{sym, ap, ◌∙◌, arith, zero-add, add-one, length-append, length-take, drop_of_length-le, take_all, drop-cons, leb-true, leb-false}
use Rattle.std.proofs.Math.Nat.{sub-zero}
use Rattle.std.proofs.lemmas.List.{take-append-le, set_split}
use Rattle.std.proofs.Math.Seq.{take-append-add}
use Rattle.format.specs.Bytes.{Bytes, byte_at}
use Rattle.volume.specs.Listing.{printed}
use Rattle.calls.specs.Image.{put}
use Rattle.calls.specs.Tree.{in_front}
use Rattle.image_laws.specs.Laws.{put_none, put_put, length_put}

-- the longest text: its length is answered in 32 bits
abbrev pub longest_text : ℕ
longest_text = 4294967295

-- a buffer with the bytes b in the place of those from p on, as many as fit
unfoldable pub clip : Bytes → ℕ → Bytes → Bytes
clip x p b = put x p (take (length x - p) b)

-- nothing fits from the end on
pub clip_past : (x : Bytes) (p : ℕ) (b : Bytes) → length x ≤ p → clip x p b ≡ x
unfolding clip
clip_past x p b h =
    let z : length x - p ≡ 0 = omega arith in
    rw (clip, z) (put_none x p)

-- what fits is put
pub clip_put : (x : Bytes) (p : ℕ) (b : Bytes) → p + length b ≤ length x → clip x p b ≡ put x p b
unfolding clip
clip_put x p b h = ap (put x p) (take_all (length x - p) b (omega arith))

pub clip_none : (x : Bytes) (p : ℕ) → clip x p [] ≡ x
clip_none x p = go (leb (length x) p) refl
  where
    go : (c : Bool) → leb (length x) p ≡ c → clip x p [] ≡ x
    go true e = clip_past x p [] (leb-true (length x) p e)
    go false e = clip_put x p [] (omega (arith, leb-false (length x) p e)) ∙ put_none x p

pub length_clip : (x : Bytes) (p : ℕ) (b : Bytes) → length (clip x p b) ≡ length x
unfolding clip
length_clip x p b = go (leb (length x) p) refl
  where
    cut : length x - p ≤ length x → p < length x → length (put x p (take (length x - p) b)) ≡ length x
    cut h g = length_put x p (take (length x - p) b) (omega (arith, length-take (length x - p) b))

    go : (c : Bool) → leb (length x) p ≡ c → length (clip x p b) ≡ length x
    go true e = ap length (clip_past x p b (leb-true (length x) p e))
    go false e = cut (omega arith) (omega (arith, leb-false (length x) p e))

-- one byte
pub clip_byte : (x : Bytes) (p v : ℕ) → p < length x → set x p v ≡ clip x p (v ∷ [])
unfolding put
clip_byte x p v h = rw (set_split x p v h, ← add-one, clip_put x p (v ∷ []) (omega arith))

-- a text in two parts
pub clip_append : (x : Bytes) (p : ℕ) (a b : Bytes) → clip (clip x p a) (p + length a) b ≡ clip x p (a ++ b)
unfolding clip
clip_append x p a b = go (leb (p + length a) (length x)) refl
  where
    whole : p + length a ≤ length x → clip (clip x p a) (p + length a) b ≡ clip x p (a ++ b)
    whole h =
        let l = length_put x p a h in
        let n : length x - p ≡ length a + (length x - (p + length a)) = omega arith in
        let t : take (length x - p) (a ++ b) ≡ a ++ take (length x - (p + length a)) b =
        ap (λ (k : ℕ). take k (a ++ b)) n ∙ take-append-add a b (length x - (p + length a)) in
        ap (λ (y : Bytes). clip y (p + length a) b) (clip_put x p a h)
        ∙ ap (λ (k : ℕ). put (put x p a) (p + length a) (take (k - (p + length a)) b)) l
        ∙ put_put x p a (take (length x - (p + length a)) b) (omega (arith, length-take (length x - (p + length a)) b))
        ∙ ap (put x p) (sym t)

    go : (c : Bool) → leb (p + length a) (length x) ≡ c → clip (clip x p a) (p + length a) b ≡ clip x p (a ++ b)
    go true e = whole (leb-true (p + length a) (length x) e)
    go false e =
        let h = leb-false (p + length a) (length x) e in
        clip_past (clip x p a) (p + length a) b (omega (arith, length_clip x p a))
        ∙ ap (put x p) (sym (take-append-le (length x - p) a b (omega arith)))

-- a text from the start on
pub clip_front : (x b : Bytes) → clip x 0 b ≡ in_front x b
unfolding clip put in_front
clip_front x b = go (leb (length b) (length x)) refl
  where
    rest : (k : ℕ) → length x ≤ k → drop k x ≡ []
    rest k h = drop_of_length-le x h

    go : (c : Bool) → leb (length b) (length x) ≡ c
        → take (length x - 0) b ++ drop (0 + length (take (length x - 0) b)) x ≡ take (length x) b ++ drop (length b) x
    go true e =
        let h = leb-true (length b) (length x) e in
        let t : take (length x - 0) b ≡ b = take_all (length x - 0) b (omega arith) in
        rw (t, take_all (length x) b h, zero-add)
    go false e =
        let h = leb-false (length b) (length x) e in
        let n = length-take (length x - 0) b in
        let l : length x ≤ 0 + length (take (length x - 0) b) = omega arith in
        rw (rest (0 + length (take (length x - 0) b)) l, rest (length b) (omega arith), sub-zero)

-- b was written from p on: the buffer afterwards, and where the next byte goes
pub record Wrote (x : Bytes) (p : ℕ) (b x' : Bytes) (next : ℕ) : Type 0 where
  pub goes_on : next ≡ p + length b
  pub written : x' ≡ clip x p b

pub wrote_then : {x : Bytes} {p : ℕ} {a y : Bytes} {q : ℕ} {b z : Bytes} {r : ℕ} → Wrote x p a y q → Wrote y q b z r → Wrote x p (a ++ b) z r
wrote_then {x} {p} {a} {y} {q} {b} {z} {r} s t = record {
  goes_on = rw (length-append a b) (omega (arith, s.goes_on, t.goes_on));
  written = rw (t.written, s.written, s.goes_on) (clip_append x p a b);
}

-- Writing a text part by part: what is still to come, from q on, makes the whole
pub record Toward (x₀ : Bytes) (p : ℕ) (whole x : Bytes) (q : ℕ) (rest : Bytes) : Type 0 where
  pub long : length x ≡ length x₀
  pub makes : clip x q rest ≡ clip x₀ p whole

pub toward_ends : {x₀ : Bytes} {p : ℕ} {whole x : Bytes} {q : ℕ} {rest : Bytes} → Toward x₀ p whole x q rest → rest ≡ [] → x ≡ clip x₀ p whole
toward_ends {x₀} {p} {whole} {x} {q} {rest} t e = sym (clip_none x q) ∙ ap (clip x q) (sym e) ∙ t.makes

-- a part of it is written
pub toward_step : {x₀ : Bytes} {p : ℕ} {whole x : Bytes} {q : ℕ} {rest : Bytes} → Toward x₀ p whole x q rest → (a more : Bytes) → rest ≡ a ++ more
    → Toward x₀ p whole (clip x q a) (q + length a) more
toward_step {x₀} {p} {whole} {x} {q} {rest} t a more e = record {
  long = length_clip x q a ∙ t.long;
  makes = clip_append x q a more ∙ ap (clip x q) (sym e) ∙ t.makes;
}

-- one byte of it
pub toward_byte : {x₀ : Bytes} {p : ℕ} {whole x : Bytes} {q : ℕ} {rest : Bytes} → Toward x₀ p whole x q rest → (v : ℕ) (more : Bytes) → rest ≡ v ∷ more
    → (x' : Bytes) → x' ≡ clip x q (v ∷ []) → (q' : ℕ) → q' ≡ q + 1 → Toward x₀ p whole x' q' more
toward_byte t v more e x' f q' g = rw (f, g) (toward_step t (v ∷ []) more e)

-- spaces
pub toward_space : {x₀ : Bytes} {p : ℕ} {whole x : Bytes} {q n i : ℕ} → Toward x₀ p whole x q (replicate (n - i) 32) → i < n
    → (x' : Bytes) → x' ≡ clip x q (32 ∷ []) → (q' : ℕ) → q' ≡ q + 1 → Toward x₀ p whole x' q' (replicate (n - (i + 1)) 32)
toward_space {n} {i} t h =
    let e : n - i ≡ suc (n - (i + 1)) = omega arith in
    toward_byte t 32 (replicate (n - (i + 1)) 32) (ap (λ (k : ℕ). replicate k 32) e)

-- the bytes of a name
pub toward_glyph : {x₀ : Bytes} {p : ℕ} {whole x : Bytes} {q : ℕ} (i : ℕ) (name : Bytes) → Toward x₀ p whole x q (printed (drop i name)) → i < length name
    → (v : ℕ) → printed (byte_at name i ∷ []) ≡ v ∷ [] → (x' : Bytes) → x' ≡ clip x q (v ∷ []) → (q' : ℕ) → q' ≡ q + 1
    → Toward x₀ p whole x' q' (printed (drop (i + 1) name))
toward_glyph i name t h v g =
    toward_byte t v (printed (drop (i + 1) name))
    (ap printed (drop-cons name i 0 h) ∙ ap (λ (l : Bytes). l ++ printed (drop (suc i) name)) g ∙ ap (λ (k : ℕ). v ∷ printed (drop k name)) (sym (add-one i)))
