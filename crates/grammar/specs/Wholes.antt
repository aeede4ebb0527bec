-- Section 7 of the specification, its whole traces, byte for byte, and what `replay` prints for them; and of two faults which is told.
-- Assumes nothing.
use Rattle.std.specs.Prelude.{ℕ, ◌≡◌, List, [], ◌++◌}
use Rattle.model.specs.Texts.{bytes, trace_text}
use Rattle.model.specs.Readings.{Trace, refused, trace, trace_of}
use Rattle.model.specs.Reports.{report_text}

-- [7.60] [7.65] the steps
abbrev pub whole_steps : List ℕ
whole_steps =
    bytes "0,1,try\n3,1,test\n3,2,try\n4,2,test\n8,1,set\n9,2,set\n"
    ++ bytes "15,1,check\n16,1,check\n18,2,check\n24,0,wait\n20,1,test\n20,2,crit\n19,0,wait\n"

-- [7.60] the first lines, in the former shape
abbrev pub whole_head : List ℕ
whole_head = bytes "windows,a,b,c\n2,5,8,12\ntime,window,act\n"

-- [7.65] in the new shape
abbrev pub new_head : List ℕ
new_head = bytes "windows,b,c\n2,8,12\nwindow,a\n1,5\n2,5\ntime,window,act\n"

-- [7.60] the trace
abbrev pub whole_input : List ℕ
whole_input = whole_head ++ whole_steps

-- [7.65]
abbrev pub new_input : List ℕ
new_input = new_head ++ whole_steps

-- [11.105] [13.165] a trace in which both processes enter, with refused actions between
abbrev pub two_input : List ℕ
two_input =
    bytes "windows,a,b,c\n2,5,8,12\ntime,window,act\n"
    ++ bytes "0,1,try\n1,1,test\n2,1,set\n10,1,check\n10,2,crit\n12,1,crit\n11,1,exit\n"
    ++ bytes "13,2,exit\n16,1,exit\n18,1,reset\n18,2,try\n20,2,test\n21,2,set\n22,1,rem\n29,2,check\n31,2,crit\n"

-- [7.60] the report
abbrev pub whole_output : List ℕ
whole_output =
    bytes "line,answer,window,moment\n"
    ++ bytes "4,0,0,0\n5,0,0,3\n6,0,0,3\n7,0,0,4\n8,0,0,8\n9,0,0,9\n"
    ++ bytes "10,10,1,16\n11,0,0,16\n12,0,0,18\n13,8,1,21\n14,0,0,20\n15,0,2,20\n16,4,0,20\n"

-- [7.65]
abbrev pub new_output : List ℕ
new_output =
    bytes "line,answer,window,moment\n"
    ++ bytes "7,0,0,0\n8,0,0,3\n9,0,0,3\n10,0,0,4\n11,0,0,8\n12,0,0,9\n"
    ++ bytes "13,10,1,16\n14,0,0,16\n15,0,0,18\n16,8,1,21\n17,0,0,20\n18,0,2,20\n19,4,0,20\n"

-- [7.60]
abbrev pub WholeCase : Type 0
WholeCase = report_text whole_input ≡ whole_output

-- [7.65]
abbrev pub NewCase : Type 0
NewCase = report_text new_input ≡ new_output

-- helper: the text that is written of what a text says
abbrev pub written_again : Trace → List ℕ
written_again (refused why line) = []
written_again (trace line k events) = trace_text k events

-- [6.202] [7.65] the one trace is written as the other
abbrev pub RenewedCase : Type 0
RenewedCase = written_again (trace_of whole_input) ≡ new_input

-- [7.70] in either shape
pub record NamesCase : Type 0 where
  pub former : report_text whole_head ≡ bytes "line,answer,window,moment\n"
  pub new : report_text new_head ≡ bytes "line,answer,window,moment\n"

-- [7.80]
abbrev pub EmptyCase : Type 0
EmptyCase = report_text (bytes "") ≡ bytes "line,answer,window,moment\n1,13,0,0\n"

-- [6.90] [7.35] of the faults that a trace of the new shape may have at once, the first is told
pub record FirstOfFaults : Type 0 where
  -- [6.36] a c that does not stand is told at the last line of a, and before the names of the steps
  pub limits : report_text (bytes "windows,b,c\n2,8,10000001\nwindow,a\n1,5\n2,5\ntime\n") ≡ bytes "line,answer,window,moment\n5,12,0,0\n"
  -- [6.32] and after line 3
  pub limit-names : report_text (bytes "windows,b,c\n2,8,10000001\nwindow\n1,5\n2,5\n") ≡ bytes "line,answer,window,moment\n3,13,0,0\n"
  -- [6.34] the lines of a in another order
  pub order : report_text (bytes "windows,b,c\n2,8,12\nwindow,a\n2,5\n1,5\ntime,window,act\n") ≡ bytes "line,answer,window,moment\n4,14,0,0\n"
