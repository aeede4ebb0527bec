-- Section 9 of the specification, the number of the layout. Whoever makes a list that is lent longer finds that `LayoutIsNumbered` no longer
-- holds; that a layout is added then, and none edited, is his to see to, and where a number comes to mean something else, all. Assumes nothing.
use Rattle.std.specs.Prelude.{◌≡◌, ℕ, ◌-◌, List, [], ◌∷◌, length, slice_index_or}
use Rattle.layout.specs.Encodings.{header_length, stride, table_length, counts_length, summary_length}

-- [9.15] how long lists are that are lent: a table, what stands before its entries and an entry; a summary and its counts; a board; a deadline
-- table, and 0 where there was no such list yet
pub record Layout : Type 0 where
  pub table : ℕ
  pub header : ℕ
  pub entry : ℕ
  pub summary : ℕ
  pub counts : ℕ
  pub board : ℕ
  pub deadlines : ℕ

-- helper: that of the number 1
abbrev pub first_layout : Layout
first_layout = record { table = 198; header = 6; entry = 2; summary = 101; counts = 5; board = 3_076; deadlines = 0 }

-- helper: that of the number 2, as long: a summary has waits so far where it had try times. Deadline tables came later: a list of a new kind
-- changes none that there is, and so not the number
abbrev pub second_layout : Layout
second_layout = record { table = 198; header = 6; entry = 2; summary = 101; counts = 5; board = 3_076; deadlines = 294 }

-- helper: that of the number 3: in a table and a deadline table 96 values of a stand between the word and the entries
abbrev pub third_layout : Layout
third_layout = record { table = 293; header = 101; entry = 2; summary = 101; counts = 5; board = 3_076; deadlines = 389 }

-- [9.15] all that there have been, that of the number 1 first
abbrev pub layouts : List Layout
layouts = first_layout ∷ second_layout ∷ third_layout ∷ []

-- [9.15] the number of the one that lists have
abbrev pub layout_number : ℕ
layout_number = 3

-- [9.15] the layout of that number
abbrev pub layout : Layout
layout = slice_index_or layouts (layout_number - 1) first_layout

-- [9.15] it is the last of them, and that of tables and summaries
pub record LayoutIsNumbered : Type 0 where
  pub last : length layouts ≡ layout_number
  pub table_is : layout.table ≡ table_length
  pub header_is : layout.header ≡ header_length
  pub entry_is : layout.entry ≡ stride
  pub summary_is : layout.summary ≡ summary_length
  pub counts_is : layout.counts ≡ counts_length
