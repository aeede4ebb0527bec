-- `values::limits::parameters_stand` meets its contract: each exit tells which part does not stand, and the last one that all before it do.
-- Assumes nothing.
use Rattle.std.proofs.Common.{◌≡◌, true, leb, sym, ap, ◌∙◌, arith, le-ltb, lt-ltb, leb-true}
use Rattle.model.specs.States.{parameters_of, limits_stand}
use Rattle.model.proofs.Tests.{clash, and_true_iff}
use Rattle.model.proofs.Lists.{part_is}
use Rattle.model.proofs.OwnLimits.{limits_parts}
use Rattle.values.specs.Bits.{are_zero}
use Rattle.values.proofs.Values.{no_limit, not_stand, not_within, rest_decides}
use Rattle.values.proofs.limits.parameters_stand.Goals as goal

pub returns-then-a-ne96 : goal.returns-then-a-ne96
returns-then-a-ne96 c =
    let args = c.args in
    not_stand _ (λ e. c.if-a-ne96.true (limits_parts (parameters_of args.n args.b args.c args.a.now) e).size)

pub returns-then-b-lt2 : goal.returns-then-b-lt2
returns-then-b-lt2 c =
    let args = c.args in
    let from = leb-true 1 args.n ((and_true_iff (leb 1 args.n) (leb args.n 96)).0 (sym c.count_stands.ensures ∙ c.if-not-count_stands.false)).0 in
    not_stand _ (λ e. clash (limits_parts (parameters_of args.n args.b args.c args.a.now) e).own
    (no_limit args.n args.b args.a.now from (omega arith) c.if-b-lt2.true))

pub returns-then-c-b : goal.returns-then-c-b
returns-then-c-b c =
    let args = c.args in
    let limits = parameters_of args.n args.b args.c args.a.now in
    not_stand limits (λ (e : limits_stand limits ≡ true). absurd (omega (arith, (limits_parts limits e).order)))

pub returns-then-c-gt10000000 : goal.returns-then-c-gt10000000
returns-then-c-gt10000000 c =
    let args = c.args in
    let limits = parameters_of args.n args.b args.c args.a.now in
    not_stand limits (λ (e : limits_stand limits ≡ true). absurd (omega (arith, (limits_parts limits e).most)))

pub returns-then-all_faults-ge9223372036854775808 : goal.returns-then-all_faults-ge9223372036854775808
returns-then-all_faults-ge9223372036854775808 c =
    let args = c.args in
    not_within args.n args.b args.c args.a.now (sym c.all_faults.ensures ∙ le-ltb _ _ c.if-all_faults-ge9223372036854775808.true)

pub returns : goal.returns
returns c =
    let args = c.args in
    c.are_zero.ensures
    ∙ ap are_zero (part_is args.a.now args.n)
    ∙ rest_decides args.n args.b args.c args.a.now (sym c.count_stands.ensures ∙ c.if-not-count_stands.false) (omega arith) (omega arith) (omega arith)
    (sym c.all_faults.ensures ∙ lt-ltb _ _ c.if-all_faults-ge9223372036854775808.false)
