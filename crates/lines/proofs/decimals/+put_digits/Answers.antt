-- `lines::decimals::put_digits` meets its contract. Assumes nothing.
use native.Mathlib.Omega.{arith}
use Rattle.lines.proofs.Digits.{one_digit, digits_room, puts_digit, puts_digits}
use Rattle.lines.proofs.decimals.+put_digits.Goals as goal

pub bounds-out-at : goal.bounds-out-at
bounds-out-at t c = let e = one_digit c.args.n c.if-n-lt10.true in omega arith

pub overflow_add-result : goal.overflow_add-result
overflow_add-result t c = let e = one_digit c.args.n c.if-n-lt10.true in omega arith

pub returns-then-n-lt10 : goal.returns-then-n-lt10
returns-then-n-lt10 t c = puts_digit _ _ _ c.if-n-lt10.true

pub put_digits-last-requires : goal.put_digits-last-requires
put_digits-last-requires t c =
    let e = digits_room c.args.n c.if-n-lt10.false in
    (omega (arith, c.decreases), omega arith)

pub bounds-out-last : goal.bounds-out-last
bounds-out-last t c = let e = digits_room c.args.n c.if-n-lt10.false in omega arith

pub overflow_add-result-2 : goal.overflow_add-result-2
overflow_add-result-2 t c = let e = digits_room c.args.n c.if-n-lt10.false in omega arith

pub returns : goal.returns
returns t c = puts_digits _ _ _ _ _ c.if-n-lt10.false c.put_digits-last.ensures
