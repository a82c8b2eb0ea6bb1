use Rattle.std.proofs.Common.{◌≡◌, ◌≤◌, ℕ, length, take, replicate, length-take-le}
use Rattle.std.proofs.lemmas.List.{length-replicate}
use Rattle.calls.specs.Mount.{most_blocks}
use Rattle.call_overwrite.proofs.write_range.Goals as goal

-- the front of a fresh array is as long as is asked for
front : (k n : ℕ) → n ≤ k → length {A = ℕ} (take n (replicate k 0)) ≡ n
front k n h = length-take-le n (replicate k 0) (rw (length-replicate {A = ℕ} k 0) h)

pub write_planned-requires-clause-places_len : goal.write_planned-requires-clause-places_len
write_planned-requires-clause-places_len c =
    let q = c.requires.sizes_len_bound in
    (front most_blocks (length c.args.sizes.now) q.0, q.1, q.2)
