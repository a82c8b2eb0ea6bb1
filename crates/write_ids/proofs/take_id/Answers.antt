use Rattle.std.proofs.Common.{◌≡◌, ℕ, ◌+◌, sym, ap, ◌∙◌, set}
use Rattle.calls.specs.Storing.{unused_id}
use Rattle.table_words.specs.Occupancy.{bits}
use Rattle.write_ids.specs.Laws.{unused_is, unused_taken}
use Rattle.write_ids.proofs.take_id.Goals as goal

pub returns : goal.returns
returns c = λ names marks room.
    let first = c.args.first in
    let words = c.args.words.now in
    let k = c.first_free-free.ensures.lowest in
    let e : first + c.first_free-free.result ≡ unused_id first names = sym (unused_is first names words marks room ∙ rw k) in
    (e, rw e (unused_taken first names words marks room c.occupy.new.words c.occupy.auto.words (c.occupy.ensures ∙ ap (λ (j : ℕ). set (bits words) j 1) k)))
