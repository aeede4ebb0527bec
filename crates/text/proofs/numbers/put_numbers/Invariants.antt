-- The loop of `numbers::put_numbers`: the digits of the numbers so far are put, what follows them is left, and no number took more
-- than 21 bytes. Assumes nothing.
use Rattle.std.proofs.Common.{◌+◌, ◌*◌, ◌≤◌, drop, take}
use Rattle.text.specs.Puts.{most_numbers}
use Rattle.text.proofs.Putting.{Left, tail_text}
use Rattle.text.proofs.numbers.put_numbers.Given as goal

abbrev pub invariant-loop-number : goal.invariant-loop-number
invariant-loop-number l =
    let ws = take most_numbers l.rest in
    (l.size ≤ 20 + 21 * l.number-index)
    × Left l.initial.out (l.at + l.initial.size) (tail_text ws) l.out (l.at + l.size) (tail_text (drop l.number-index ws))
