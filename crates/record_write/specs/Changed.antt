-- A body that is another one with some bytes changed is checked and stored in three parts: what stands before those bytes, they, and what
-- stands after them.
use Rattle.std.specs.Prelude.{ℕ, ◌+◌, ◌-◌, ◌≤◌, ◌≡◌, take, drop}
use Rattle.std.proofs.Common.{sym, ◌∙◌, arith, length-append, length-drop, take_all, take-take, drop-drop}
use Rattle.std.proofs.Math.Path.{ap}
use mathlib.Core.List.{[], ◌++◌, append_assoc}
use Rattle.std.proofs.Math.Nat.{add_assoc}
use Rattle.std.proofs.Math.ListN.{length}
use Rattle.format.specs.Bytes.{Bytes, enc16}
use Rattle.format.specs.Crc.{crc_over, check}
use Rattle.format.specs.Record.{block}
use Rattle.format.specs.Encoding.{block_front, block_bytes}
use Rattle.format_laws.specs.Bytes.{drop_take}
use Rattle.format_laws.specs.Crc.{crc_append}
use Rattle.calls.specs.Image.{put, part}
use Rattle.image_laws.specs.Apart.{Apart, apart_part, apart_front, apart_sym}
use Rattle.image_laws.specs.Laws.{part_length, length_put, part_outside, put_put}
use Rattle.record_read.specs.declared.BlockHeader.{BlockHeader}
use Rattle.record_write.specs.Sealed.{sealed_parts}

pub changed_check : (front old : Bytes) (begin : ℕ) (text : Bytes) → let end = begin + length text in
    crc_over (crc_over (crc_over (crc_over 0 front) (take begin old)) text) (take (length old - end) (drop end old)) ≡ check front (put old begin text)
unfolding check put
changed_check front old begin text =
    let end = begin + length text in
    let rest : take (length old - end) (drop end old) ≡ drop end old = take_all (length old - end) (drop end old) (omega (arith, length-drop end old)) in
    rw (rest, crc_append (crc_over 0 front) (take begin old) (text ++ drop end old), crc_append (crc_over (crc_over 0 front) (take begin old)) text (drop end old))

-- the part with some of its bytes changed, in three
three_parts : (x : Bytes) (from n begin : ℕ) (text : Bytes) → begin + length text ≤ n
    → put (part x from n) begin text
    ≡ (part x from begin ++ text) ++ part x (from + (begin + length text)) (n - (begin + length text))
unfolding put
three_parts x from n begin text h =
    let end = begin + length text in
    let a : take begin (part x from n) ≡ part x from begin = take-take begin n (drop from x) (omega arith) in
    let b : drop end (part x from n) ≡ part x (from + end) (n - end) = drop_take end n (drop from x) ∙ ap (take (n - end)) (drop-drop end from x) in
    rw (a, b) (sym (append_assoc (part x from begin) text (part x (from + end) (n - end))))

module _ (x : Bytes) (from to n begin : ℕ) (text : Bytes) (fits : (from + n ≤ length x) × (to + n ≤ length x) × (begin + length text ≤ n)) (apart : Apart from n to n) where
  abbrev end : ℕ
  end = begin + length text

  abbrev before : Bytes
  before = part x from begin

  abbrev after : Bytes
  after = part x (from + end) (n - end)

  before_long : length before ≡ begin
  before_long = part_length x from begin (omega (arith, fits))

  -- two parts stored
  two : put (put x to before) (to + begin) text ≡ put x to (before ++ text)
  two = rw before_long at (put_put x to before text (omega (arith, fits, before_long)))

  front_long : length (before ++ text) ≡ end
  front_long = length-append before text ∙ rw before_long

  still_there : part (put x to (before ++ text)) (from + end) (n - end) ≡ after
  still_there =
      part_outside x to (before ++ text) (omega (arith, fits, front_long)) (from + end) (n - end)
      (rw front_long (apart_front (apart_sym (apart_part (apart_sym apart) end (n - end) (omega (arith, fits)))) end (omega (arith, fits))))

  pub copied_changed : (x₁ x₂ x₃ : Bytes) → (Apart from begin to begin → x₁ ≡ put x to before) → x₂ ≡ put x₁ (to + begin) text
      → (Apart (from + end) (n - end) (to + end) (n - end) → x₃ ≡ put x₂ (to + end) (part x₂ (from + end) (n - end)))
      → x₃ ≡ put x to (put (part x from n) begin text)
  copied_changed x₁ x₂ x₃ e₁ e₂ e₃ =
      let a₁ : Apart from begin to begin = apart_sym (apart_front (apart_sym (apart_front apart begin (omega (arith, fits)))) begin (omega (arith, fits))) in
      let a₂ : Apart (from + end) (n - end) (to + end) (n - end) =
      apart_sym (apart_part (apart_sym (apart_part apart end (n - end) (omega (arith, fits)))) end (n - end) (omega (arith, fits))) in
      let q : x₂ ≡ put x to (before ++ text) = e₂ ∙ rw (e₁ a₁) two in
      let l = part_length x (from + end) (n - end) (omega (arith, fits)) in
      let r = rw front_long at (put_put x to (before ++ text) after (omega (arith, fits, front_long, l))) in
      e₃ a₂ ∙ rw (q, still_there) (r ∙ ap (put x to) (sym (three_parts x from n begin text fits.2)))

-- a block: its front and its check go before it, apart from what is copied
module _ (x : Bytes) (at : ℕ) (h : BlockHeader) (from begin : ℕ) (text front : Bytes) (v : ℕ) where
  abbrev n : ℕ
  n = h.length

  abbrev body : Bytes
  body = put (part x from n) begin text

  pub block_changed : (at + (block.header_size + n) ≤ length x) × (from + n ≤ length x) → begin + length text ≤ n
      → front ≡ block_front h.id h.sequence h.owner h.previous n → v ≡ check front body
      → Apart from n at (block.header_size + n)
      → (y : Bytes)
      → (Apart from n (at + block.header_size) n
      → y ≡ put (put (put x at front) (at + 22) (enc16 v [])) (at + block.header_size)
      (put (part (put (put x at front) (at + 22) (enc16 v [])) from n) begin text))
      → y ≡ put x at (block_bytes h.id h.sequence h.owner h.previous body)
  unfolding block_front block_bytes
  block_changed fits within is e a y stored =
      let field = enc16 v [] in
      let x₁ = put x at front in
      let front_22 : length front ≡ 22 = ap length is in
      let k = part_length x from n fits.1 in
      let body_long : length body ≡ n = length_put (part x from n) begin text (omega (arith, k)) ∙ k in
      let l₁ = length_put x at front (omega (arith, fits)) in
      let s₁ : part x₁ from n ≡ part x from n =
      part_outside x at front (omega (arith, fits)) from n (rw front_22 (apart_front a 22 (omega arith))) in
      let s₂ : part (put x₁ (at + 22) field) from n ≡ part x₁ from n =
      part_outside x₁ (at + 22) field (omega (arith, fits, l₁)) from n (apart_part a 22 2 (omega arith)) in
      let w = sealed_parts x at front body v (omega (arith, fits, body_long)) e in
      stored (apart_part a block.header_size n (omega arith))
      ∙ rw (s₂, s₁) (rw (front_22, add_assoc at 22 2) at w ∙ rw (body_long, is))
