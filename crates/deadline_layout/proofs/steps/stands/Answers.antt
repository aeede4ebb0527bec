-- `deadline_layout::steps::stands` meets its contract, stage by stage. Assumes nothing.
use native.Mathlib.Omega.{arith}
use Rattle.deadline_layout.proofs.Looks.{idle_stands, critical_stands, past_stands, checking_stands, timed_stands}
use Rattle.deadline_layout.proofs.steps.stands.Goals as goal

pub returns-then-stage-eq-REMAINDER : goal.returns-then-stage-eq-REMAINDER
returns-then-stage-eq-REMAINDER c = idle_stands _ _ _ _ c.if-stage-eq-REMAINDER.true c.are_zero.ensures

pub returns-then-stage-lt-CHECKING : goal.returns-then-stage-lt-CHECKING
returns-then-stage-lt-CHECKING c =
    timed_stands _ _ _ _ c.requires (omega arith) c.if-stage-eq-REMAINDER.false (λ z. omega arith) (λ z. omega arith) (omega arith)
    c.are_of_arrival.ensures

pub returns-then-stage-eq-CHECKING : goal.returns-then-stage-eq-CHECKING
returns-then-stage-eq-CHECKING c =
    checking_stands _ _ _ _ c.requires (omega arith) c.if-stage-eq-CHECKING.true c.are_of_arrival-then-stage-eq-CHECKING.ensures

pub returns-then-stage-lt-CRITICAL : goal.returns-then-stage-lt-CRITICAL
returns-then-stage-lt-CRITICAL c =
    timed_stands _ _ _ _ c.requires (omega arith) c.if-stage-eq-REMAINDER.false c.if-stage-eq-CHECKING.false (λ z. omega arith) (omega arith)
    c.are_of_arrival-then-stage-lt-CRITICAL.ensures

pub returns-then-stage-eq-CRITICAL : goal.returns-then-stage-eq-CRITICAL
returns-then-stage-eq-CRITICAL c = critical_stands _ _ _ _ c.if-stage-eq-CRITICAL.true c.are_zero-then-stage-eq-CRITICAL.ensures

pub returns-then-stage-gt-LEAVING : goal.returns-then-stage-gt-LEAVING
returns-then-stage-gt-LEAVING c = past_stands _ _ _ _ c.if-stage-gt-LEAVING.true

pub returns : goal.returns
returns c =
    timed_stands _ _ _ _ c.requires (omega arith) c.if-stage-eq-REMAINDER.false c.if-stage-eq-CHECKING.false c.if-stage-eq-CRITICAL.false
    c.if-stage-gt-LEAVING.false c.are_of_arrival-2.ensures
