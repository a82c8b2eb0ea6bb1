-- A part of the image that holds nothing but erased bytes is a put of them.
use Rattle.std.proofs.Common.{◌≡◌, ℕ, ◌+◌, ◌-◌, ◌<◌, length, length-take, length-drop, get_or, sym, ap, ◌∙◌, arith}
use Rattle.std.proofs.lemmas.List.{same_lists, get_or_default, drop-drop, length-replicate, get_or-replicate}
use borrow.Rule.Slice.PartMut.{put_mid}
use Rattle.format.specs.Bytes.{Bytes}
use Rattle.format.specs.Reading.{ERASED}
use Rattle.calls.specs.Image.{put, erased}
use Rattle.byte_store.proofs.erase.Goals as goal

part_put : (x : Bytes) (p n : ℕ) (b : Bytes) → length b ≡ n → put_mid p (p + n - p) x b ≡ put x p b
unfolding put
part_put x p n b e = let m : p + n - p ≡ length b = omega arith in rw (m, drop-drop (length b) p x)

all_erased : (b : Bytes) (n : ℕ) → length b ≡ n → ((k : ℕ) → k < n → get_or b k 0 ≡ ERASED) → b ≡ erased n
all_erased b n e h =
    same_lists b (erased n) (e ∙ sym (length-replicate n ERASED))
    (λ k d l. get_or_default b k d 0 l ∙ h k (omega arith) ∙ sym (get_or-replicate n k ERASED d (omega arith)))

pub returns : goal.returns
returns c =
    let n = c.args.n in
    let b = c.loop-byte.byte-items in
    let long : length b ≡ n = simp (length-take, length-drop) at c.loop-byte.auto.byte-items ∙ omega arith in
    part_put c.args.image.now c.args.at n b long
    ∙ ap (put c.args.image.now c.args.at) (all_erased b n long (λ k h. c.loop-byte.invariant k (omega arith)))
