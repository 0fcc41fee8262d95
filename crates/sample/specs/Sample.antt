-- The text of a program that is made from a number, and the query for it.
use Rattle.std.specs.Prelude.{ℕ, ◌*◌, ◌%◌, List, ◌++◌, codes}
use Rattle.std.specs.Fmt.{decimal}
use Rattle.std.specs.List.{flat_map, range_with_len}

-- the line of the function of a number
abbrev pub function_line : ℕ → List ℕ
function_line i =
    codes "int g" ++ decimal i ++ codes "(int x) { if (x > " ++ decimal (7 * i % 31) ++ codes ") { return x - " ++ decimal (3 * i % 17)
    ++ codes "; } return x + " ++ decimal (5 * i % 13) ++ codes "; }\n"

-- a call of the function of a number
abbrev pub call_text : ℕ → List ℕ
call_text i = codes " s = g" ++ decimal i ++ codes "(s);"

-- the function that calls those from 1 to a number, in order
abbrev pub caller_line : ℕ → List ℕ
caller_line n = codes "int f(int x) { int s = x;" ++ flat_map call_text (range_with_len 1 n) ++ codes " return s; }\n"

-- the program: a line for each function from 1 to a number, and the line of the function that calls them
abbrev pub program_text : ℕ → List ℕ
program_text n = flat_map function_line (range_with_len 1 n) ++ caller_line n

-- the query, the same for each program
abbrev pub query_text : List ℕ
query_text = codes "cover @CONDITIONEDGE"
