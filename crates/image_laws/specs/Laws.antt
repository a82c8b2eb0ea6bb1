-- What stands in an image after a put: laws for callers, who never open its definition.
use Rattle.std.specs.Prelude.{ℕ, max, min, ◌+◌, ◌-◌, ◌≤◌, ◌<◌, ◌≡◌, refl, Bool, true, false, [], ◌++◌, ltb, get_or}
use Rattle.std.proofs.Common.{sym, ◌∙◌, append_assoc, add-zero, ltb-true, ltb-false, length-take, take-append-drop, length-take-le, take_at, get_or-take, get_or-drop, ext_get_or}
use Rattle.std.proofs.Math.Path.{ap}
use native.Mathlib.Omega.{arith}
use Rattle.std.proofs.Math.ListN.{length, take, drop, length-append, length-drop, get_or-append}
use Rattle.std.proofs.Math.Seq.{take-take, drop-drop, drop_at, take-append-le, drop-append-le, take-append-add, drop-append-add, take-append_seam}
use Rattle.format.specs.Bytes.{Bytes, byte_at}
use Rattle.format_laws.specs.Bytes.{drop_take}
use Rattle.calls.specs.Image.{put, part}
use Rattle.image_laws.specs.Apart.{Apart}

-- ---- parts

pub part_length : (x : Bytes) (p n : ℕ) → p + n ≤ length x → length (part x p n) ≡ n
part_length x p n h = simp (length-take, length-drop) (omega arith)

pub part_byte : (x : Bytes) (p n i : ℕ) → i < n → byte_at (part x p n) i ≡ byte_at x (p + i)
part_byte x p n i h = get_or-take n (drop p x) i 0 h ∙ get_or-drop p x i 0

-- where the place i stands to the n bytes from p on
data Seen (p n i : ℕ) : Type 0 where
  before : i < p → Seen p n i
  within : (j : ℕ) → j < n → i ≡ p + j → Seen p n i
  after : (k : ℕ) → i ≡ p + n + k → Seen p n i

seen : (p n i : ℕ) → Seen p n i
seen p n i = go (ltb i p) refl (ltb i (p + n)) refl
  where
    go : (s : Bool) → ltb i p ≡ s → (t : Bool) → ltb i (p + n) ≡ t → Seen p n i
    go true e t f = before (ltb-true i p e)
    go false e true f = within (i - p) (omega (arith, ltb-false i p e, ltb-true i (p + n) f)) (omega (arith, ltb-false i p e))
    go false e false f = after (i - (p + n)) (omega (arith, ltb-false i (p + n) f))

-- ---- one put

-- no byte is no change
pub put_none : (x : Bytes) (p : ℕ) → put x p [] ≡ x
unfolding put
put_none x p = rw add-zero (take-append-drop p x)

module _ (x : Bytes) (p : ℕ) (b : Bytes) (fits : p + length b ≤ length x) where
  front_length : length (take p x) ≡ p
  front_length = length-take-le p x (omega arith)

  pub length_put : length (put x p b) ≡ length x
  unfolding put
  length_put =
      omega (
        arith,
        front_length,
        length-append (take p x) (b ++ drop (p + length b) x),
        length-append b (drop (p + length b) x),
        length-drop (p + length b) x,
      )

  -- the bytes stand at p, in front of what followed them
  pub drop_put : drop p (put x p b) ≡ b ++ drop (p + length b) x
  unfolding put
  drop_put = drop_at (take p x) (b ++ drop (p + length b) x) p front_length

  pub part_put : part (put x p b) p (length b) ≡ b
  part_put = ap (take (length b)) drop_put ∙ take-append_seam b (drop (p + length b) x)

  -- what stands before and after is as it was
  pub before_put : (n : ℕ) → n ≤ p → take n (put x p b) ≡ take n x
  unfolding put
  before_put n h =
      take-append-le n (take p x) (b ++ drop (p + length b) x) (omega (arith, front_length)) ∙ take-take n p x h

  pub after_put : (n : ℕ) → p + length b ≤ n → drop n (put x p b) ≡ drop n x
  after_put n h =
      let m = n - (p + length b) in
      let e : p + (length b + m) ≡ n = omega arith in
      let f : p + length b + m ≡ n = omega arith in
      ap (λ (k : ℕ). drop k (put x p b)) (sym e)
      ∙ sym (drop-drop (length b + m) p (put x p b))
      ∙ ap (drop (length b + m)) drop_put
      ∙ drop-append-add b (drop (p + length b) x) m
      ∙ drop-drop m (p + length b) x
      ∙ ap (λ (k : ℕ). drop k x) f

  -- byte by byte
  pub byte_within : (j : ℕ) → j < length b → byte_at (put x p b) (p + j) ≡ byte_at b j
  byte_within j h =
      sym (get_or-drop p (put x p b) j 0)
      ∙ ap (λ (l : Bytes). get_or l j 0) drop_put
      ∙ get_or-append b (drop (p + length b) x) 0 j h

  byte_before : (i : ℕ) → i < p → byte_at (put x p b) i ≡ byte_at x i
  byte_before i h =
      sym (get_or-take p (put x p b) i 0 h) ∙ ap (λ (l : Bytes). get_or l i 0) (before_put p (omega arith)) ∙ get_or-take p x i 0 h

  byte_after : (k : ℕ) → byte_at (put x p b) (p + length b + k) ≡ byte_at x (p + length b + k)
  byte_after k =
      sym (get_or-drop (p + length b) (put x p b) k 0)
      ∙ ap (λ (l : Bytes). get_or l k 0) (after_put (p + length b) (omega arith))
      ∙ get_or-drop (p + length b) x k 0

  pub byte_outside : (i : ℕ) → ((j : ℕ) → j < length b → i ≡ p + j → ⊥) → byte_at (put x p b) i ≡ byte_at x i
  byte_outside i out = go (seen p (length b) i)
    where
      go : Seen p (length b) i → byte_at (put x p b) i ≡ byte_at x i
      go (before h) = byte_before i h
      go (within j h e) = absurd (out j h e)
      go (after k e) = rw e (byte_after k)

  -- a part that shares no byte with it is not changed
  pub part_outside : (o n : ℕ) → Apart o n p (length b) → part (put x p b) o n ≡ part x o n
  part_outside o n a =
      let k = length-take n (drop o (put x p b)) in
      let m : length (part (put x p b) o n) ≡ length (part x o n) = simp (length-take, length-drop, length_put) in
      ext_get_or 0 (part (put x p b) o n) (part x o n) m
      (λ i h. let f : i < n = omega arith in
      part_byte (put x p b) o n i f ∙ byte_outside (o + i) (λ j g e. a.no_common i j f g e) ∙ sym (part_byte x o n i f))

  -- a part that contains all of it is changed as the image is
  pub drop_around : (o : ℕ) → o ≤ p → drop o (put x p b) ≡ put (drop o x) (p - o) b
  unfolding put
  drop_around o h =
      let t : drop o (take p x) ≡ take (p - o) (drop o x) = drop_take o p x in
      let e : o + (p - o + length b) ≡ p + length b = omega arith in
      drop-append-le o (take p x) (b ++ drop (p + length b) x) (omega (arith, front_length))
      ∙ rw (t, drop-drop (p - o + length b) o x, e)

  pub take_around : (n : ℕ) → p + length b ≤ n → take n (put x p b) ≡ put (take n x) p b
  unfolding put
  take_around n h =
      let m = n - (p + length b) in
      let t : take p (take n x) ≡ take p x = take-take p n x (omega arith) in
      let d : drop (p + length b) (take n x) ≡ take m (drop (p + length b) x) = drop_take (p + length b) n x in
      let k : length (take p x ++ b) ≡ p + length b = omega (arith, length-append (take p x) b, front_length) in
      let f : length (take p x ++ b) + m ≡ n = omega arith in
      ap (take n) (sym (append_assoc (take p x) b (drop (p + length b) x)))
      ∙ ap (λ (k : ℕ). take k ((take p x ++ b) ++ drop (p + length b) x)) (sym f)
      ∙ take-append-add (take p x ++ b) (drop (p + length b) x) m
      ∙ rw (t, d) (append_assoc (take p x) b (take m (drop (p + length b) x)))

pub part_around : (x : Bytes) (p : ℕ) (b : Bytes) → p + length b ≤ length x → (o n : ℕ) → o ≤ p → p + length b ≤ o + n
    → part (put x p b) o n ≡ put (part x o n) (p - o) b
part_around x p b fits o n h g =
    ap (take n) (drop_around x p b fits o h) ∙ take_around (drop o x) (p - o) b (omega (arith, length-drop o x)) n (omega arith)

-- ---- two puts

-- bytes one after the other
-- a part that shares bytes with what was put: those from the greater beginning up to the lesser end
module _ (x : Bytes) (p : ℕ) (b : Bytes) (fits : p + length b ≤ length x) (o n : ℕ) (h : o + n ≤ length x)
    (meet : max o p ≤ min (o + n) (p + length b)) where
  abbrev begin : ℕ
  begin = max o p

  abbrev shared : Bytes
  shared = part b (begin - p) (min (o + n) (p + length b) - begin)

  shared_long : length shared ≡ min (o + n) (p + length b) - begin
  shared_long = part_length b (begin - p) (min (o + n) (p + length b) - begin) (omega arith)

  within_part : begin - o + length shared ≤ length (part x o n)
  within_part = omega (arith, shared_long, part_length x o n h)

  not_shared : (j : ℕ) → j < n → ((i : ℕ) → i < length b → o + j ≡ p + i → ⊥) → byte_at (put x p b) (o + j) ≡ byte_at (put (part x o n) (begin - o) shared) j
  not_shared j g out =
      byte_outside x p b fits (o + j) out
      ∙ sym (byte_outside (part x o n) (begin - o) shared within_part j (λ i w e. out (o + j - p) (omega (arith, shared_long)) (omega (arith, shared_long)))
      ∙ part_byte x o n j g)

  same_byte : (j : ℕ) → j < n → Seen p (length b) (o + j) → byte_at (put x p b) (o + j) ≡ byte_at (put (part x o n) (begin - o) shared) j
  same_byte j g (before s) = not_shared j g (λ i w e. omega arith)
  same_byte j g (after k e) = not_shared j g (λ i w q. omega arith)
  same_byte j g (within i w e) =
      let l = o + j - begin in
      let z : begin - o + l ≡ j = omega arith in
      let y : begin - p + l ≡ i = omega arith in
      let inside : l < length shared = omega (arith, shared_long) in
      ap (byte_at (put x p b)) e ∙ byte_within x p b fits i w
      ∙ sym (ap (byte_at (put (part x o n) (begin - o) shared)) (sym z) ∙ byte_within (part x o n) (begin - o) shared within_part l inside
      ∙ part_byte b (begin - p) (min (o + n) (p + length b) - begin) l (omega (arith, shared_long)) ∙ ap (byte_at b) y)

  pub part_shared : part (put x p b) o n ≡ put (part x o n) (begin - o) shared
  part_shared =
      let l : length (part (put x p b) o n) ≡ n = part_length (put x p b) o n (omega (arith, length_put x p b fits)) in
      let r : length (put (part x o n) (begin - o) shared) ≡ n = length_put (part x o n) (begin - o) shared within_part ∙ part_length x o n h in
      ext_get_or 0 (part (put x p b) o n) (put (part x o n) (begin - o) shared) (l ∙ sym r)
      (λ j g. part_byte (put x p b) o n j (omega (arith, l)) ∙ same_byte j (omega (arith, l)) (seen p (length b) (o + j)))

pub put_put : (x : Bytes) (p : ℕ) (a b : Bytes) → p + length a + length b ≤ length x
    → put (put x p a) (p + length a) b ≡ put x p (a ++ b)
unfolding put
put_put x p a b h =
    let f = front_length x p a (omega arith) in
    let k : length (take p x ++ a) ≡ p + length a = omega (arith, length-append (take p x) a) in
    let e : p + length a + length b ≡ p + length (a ++ b) = omega (arith, length-append a b) in
    let t : take (p + length a) (put x p a) ≡ take p x ++ a =
    ap (take (p + length a)) (sym (append_assoc (take p x) a (drop (p + length a) x)))
    ∙ take_at (take p x ++ a) (drop (p + length a) x) (p + length a) k in
    rw (t, after_put x p a (omega arith) (p + length a + length b) (omega arith), e) (simp append_assoc)

-- some of the bytes that were put are put over
put_front : (a r : Bytes) (k : ℕ) (b : Bytes) → k + length b ≤ length a → put (a ++ r) k b ≡ put a k b ++ r
unfolding put
put_front a r k b h = rw (take-append-le k a r (omega arith), drop-append-le (k + length b) a r h) (simp append_assoc)

pub put_within : (x : Bytes) (p : ℕ) (a : Bytes) (k : ℕ) (b : Bytes) → p + length a ≤ length x → k + length b ≤ length a
    → put (put x p a) (p + k) b ≡ put x p (put a k b)
put_within x p a k b h g =
    let y = put (put x p a) (p + k) b in
    let z = put x p (put a k b) in
    let l = length_put x p a h in
    let m = length_put a k b g in
    let e : p + k - p ≡ k = omega arith in
    let front : take p y ≡ take p z =
    before_put (put x p a) (p + k) b (omega arith) p (omega arith)
    ∙ before_put x p a h p (omega arith)
    ∙ sym (before_put x p (put a k b) (omega arith) p (omega arith)) in
    let back : drop p y ≡ drop p z =
    drop_around (put x p a) (p + k) b (omega arith) p (omega arith)
    ∙ rw (e, drop_put x p a h) (put_front a (drop (p + length a) x) k b g)
    ∙ rw m at (sym (drop_put x p (put a k b) (omega arith))) in
    sym (take-append-drop p y) ∙ rw (front, back) (take-append-drop p z)

-- puts that share no byte may change places
module _ (x : Bytes) (p : ℕ) (a : Bytes) (q : ℕ) (b : Bytes) (fits : p + length a ≤ length x) (also : q + length b ≤ length x) where
  swap_byte : (i : ℕ) → ((j : ℕ) → j < length b → i ≡ q + j → ⊥) → byte_at (put (put x p a) q b) i ≡ byte_at (put (put x q b) p a) i
  swap_byte i out =
      let l = length_put x p a fits in
      byte_outside (put x p a) q b (omega arith) i out ∙ go (length_put x q b also) (seen p (length a) i)
    where
      same : length (put x q b) ≡ length x → ((j : ℕ) → j < length a → i ≡ p + j → ⊥) → byte_at (put x p a) i ≡ byte_at (put (put x q b) p a) i
      same m o =
          byte_outside x p a fits i o ∙ sym (byte_outside x q b also i out) ∙ sym (byte_outside (put x q b) p a (omega arith) i o)

      go : length (put x q b) ≡ length x → Seen p (length a) i → byte_at (put x p a) i ≡ byte_at (put (put x q b) p a) i
      go m (before h) = same m (λ j f e. omega arith)
      go m (within j f e) = rw e (byte_within x p a fits j f ∙ sym (byte_within (put x q b) p a (omega arith) j f))
      go m (after k e) = same m (λ j f g. omega arith)

pub put_swap : (x : Bytes) (p : ℕ) (a : Bytes) (q : ℕ) (b : Bytes) → p + length a ≤ length x → q + length b ≤ length x
    → Apart p (length a) q (length b) → put (put x p a) q b ≡ put (put x q b) p a
put_swap x p a q b h g s =
    let l = length_put x p a h in
    let m = length_put x q b g in
    ext_get_or 0 (put (put x p a) q b) (put (put x q b) p a)
    (length_put (put x p a) q b (omega arith) ∙ l ∙ sym m ∙ sym (length_put (put x q b) p a (omega arith)))
    (λ i n. go i (seen q (length b) i))
  where
    go : (i : ℕ) → Seen q (length b) i → byte_at (put (put x p a) q b) i ≡ byte_at (put (put x q b) p a) i
    go i (before f) = swap_byte x p a q b h g i (λ j d e. omega arith)
    go i (after k f) = swap_byte x p a q b h g i (λ j d e. omega arith)
    go i (within j f e) = sym (swap_byte x q b p a g h i (λ k d c. s.no_common k j d f (omega arith)))
