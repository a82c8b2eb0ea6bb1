use Rattle.std.proofs.Common.{◌≡◌, ◌+◌, ◌<◌, ◌^◌, ℕ, refl, length, ap, arith, Ok, Err}
use Rattle.std.proofs.lemmas.Result.{err_from_is_err_and}
use Rattle.area_list.specs.Numbers.{area_list}
use Rattle.calls.specs.Answers.{read_seen}
use Rattle.calls.specs.Outcome.{code_nonzero}
use Rattle.calls.specs.Read.{Given, given, refused, read_given, read_answer, handle_after}
use Rattle.calls.specs.declared.BytesRead.{BytesRead}
use Rattle.calls.specs.declared.Handle.{Handle}
use Rattle.calls.specs.declared.ReadAnswer.{ReadAnswer}
use Rattle.calls.specs.declared.Refusal.{Refusal}
use Rattle.calls_laws.specs.Reads.{EndsSoon, read_ends}
use Rattle.call_entries.proofs.read_of.Goals as goal

-- the position that a read ends at is a number of 32 bits
ends-fit : (g : Given) (position : ℕ) (r : BytesRead) → position < 2 ^ 32 → EndsSoon position g → read_seen (Ok r) ≡ read_answer g → position + r.given < 2 ^ 32
ends-fit (given bytes headers) position r h s e = omega (arith, ap (λ (a : ReadAnswer). a.given) e)
ends-fit (refused n) position r h s e = omega (arith, ap (λ (a : ReadAnswer). a.given) e)

moved : (g : Given) (h : Handle) (r : BytesRead) → read_seen (Ok r) ≡ read_answer g → record { id = h.id; position = h.position + r.given } ≡ handle_after g h
moved (given bytes headers) h r e = let z : r.given ≡ length bytes = ap (λ (a : ReadAnswer). a.given) e in rw z
moved (refused n) h r e = let z : h.position + r.given ≡ h.position = omega (arith, ap (λ (a : ReadAnswer). a.given) e) in rw z

kept : (g : Given) (h : Handle) (r : Refusal) → read_seen (Err r) ≡ read_answer g → h ≡ handle_after g h
kept (given bytes headers) h r e = absurd (code_nonzero r (ap (λ (a : ReadAnswer). a.number) e))
kept (refused n) h r e = refl

pub returns-in_err-read-clause-answer : goal.returns-in_err-read-clause-answer
returns-in_err-read-clause-answer c =
    let p = err_from_is_err_and c.from_residual.result c.from_residual.ensures.1 in
    rw (p.1, p.2) c.in_err-read.ensures.answer

pub returns-in_err-read-clause-handle : goal.returns-in_err-read-clause-handle
returns-in_err-read-clause-handle c =
    kept (read_given c.args.image.now (area_list c.args.areas.numbers) c.args.h.now.id c.args.h.now.position (length c.args.buffer.now)) c.args.h.now c.in_err-read.field-0.0 c.in_err-read.ensures.answer

pub overflow_add-h : goal.overflow_add-h
overflow_add-h c =
    record {
      fits = ends-fit (read_given c.args.image.now (area_list c.args.areas.numbers) c.args.h.now.id c.args.h.now.position (length c.args.buffer.now)) c.args.h.now.position c.in_ok-read.read (omega arith)
          (read_ends c.args.image.now (area_list c.args.areas.numbers) c.args.h.now.id c.args.h.now.position (length c.args.buffer.now)) c.in_ok-read.ensures.answer;
    }

pub returns-clause-handle : goal.returns-clause-handle
returns-clause-handle c =
    moved (read_given c.args.image.now (area_list c.args.areas.numbers) c.args.h.now.id c.args.h.now.position (length c.args.buffer.now)) c.args.h.now c.in_ok-read.read c.in_ok-read.ensures.answer
