-- The place is the word's number times 64 and the place in the word, and the shift is a power of two.
use Rattle.std.proofs.Common.{◌/◌, ◌%◌, ◌^◌, arith, get_or, bit_or, lit<}
use Rattle.std.proofs.Math.Pow.{shl_exact}
use Rattle.std.proofs.Math.Nat.{one-mul, div-add-mod'}
use Rattle.table_words.proofs.Word.{or_set}
use Rattle.table_words.proofs.Steps.{word_set}
use Rattle.table_words.proofs.occupy.Goals as goal

pub returns : goal.returns
returns c =
    let ws = c.args.words.now in
    let i = c.args.place / 64 in
    let j = c.args.place % 64 in
    rw (shl_exact {a = 1} 1 j 64 (lit< tt) (omega arith), one-mul)
    (rw div-add-mod' at (word_set i j (bit_or (get_or ws i 0) (2 ^ j)) ws (omega arith) (omega arith) (or_set 64 (get_or ws i 0) j (omega arith))))
