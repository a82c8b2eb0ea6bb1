use Rattle.std.proofs.Common.{◌≡◌, ◌≤◌, ℕ, length, take, replicate, length-take-le}
use Rattle.std.proofs.lemmas.List.{length-replicate}
use Rattle.write_sizes.specs.Cut.{most_pieces}
use Rattle.call_append.proofs.write_count.Goals as goal

-- the front of a fresh array is as long as is asked for
front : (k n : ℕ) → n ≤ k → length {A = ℕ} (take n (replicate k 0)) ≡ n
front k n h = length-take-le n (replicate k 0) (rw (length-replicate {A = ℕ} k 0) h)

pub write_pieces-requires-clause-room : goal.write_pieces-requires-clause-room
write_pieces-requires-clause-room c =
    let l = front most_pieces c.args.chain.count c.requires.cut.few in
    record { cut = c.requires.cut; ids_count = l; places_count = l }
