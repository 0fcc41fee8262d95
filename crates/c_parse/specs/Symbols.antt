-- Whether the first token is a symbol.
-- Only proofs rest on this: no public contract speaks of it.
use Rattle.std.specs.Prelude.{ℕ, Bool, false, ◌==◌, List, [], ◌∷◌}
use Rattle.c_parse.specs.declared.sign.Symbol.{Symbol}
use Rattle.c_parse.specs.declared.sign.Symbol.TheVariants as symbols
use Rattle.c_parse.specs.declared.sign.Sign.{Sign}
use Rattle.c_parse.specs.declared.sign.Sign.TheVariants as sign
use Rattle.c_parse.specs.declared.sign.Terminal.{Terminal}

-- symbols are told apart by numbers
abbrev pub code_of : Symbol → ℕ
code_of symbols.Open = 0
code_of symbols.Close = 1
code_of symbols.OpenIndex = 2
code_of symbols.CloseIndex = 3
code_of symbols.OpenBrace = 4
code_of symbols.CloseBrace = 5
code_of symbols.Semicolon = 6
code_of symbols.Comma = 7
code_of symbols.Question = 8
code_of symbols.Colon = 9
code_of symbols.Plus = 10
code_of symbols.Minus = 11
code_of symbols.Star = 12
code_of symbols.Slash = 13
code_of symbols.Percent = 14
code_of symbols.Tilde = 15
code_of symbols.Not = 16
code_of symbols.And = 17
code_of symbols.Caret = 18
code_of symbols.Or = 19
code_of symbols.Less = 20
code_of symbols.Greater = 21
code_of symbols.LessEqual = 22
code_of symbols.GreaterEqual = 23
code_of symbols.Equal = 24
code_of symbols.NotEqual = 25
code_of symbols.Shl = 26
code_of symbols.Shr = 27
code_of symbols.AndAnd = 28
code_of symbols.OrOr = 29
code_of symbols.Assign = 30
code_of symbols.AddAssign = 31
code_of symbols.SubAssign = 32
code_of symbols.MulAssign = 33
code_of symbols.DivAssign = 34
code_of symbols.RemAssign = 35
code_of symbols.ShlAssign = 36
code_of symbols.ShrAssign = 37
code_of symbols.AndAssign = 38
code_of symbols.XorAssign = 39
code_of symbols.OrAssign = 40
code_of symbols.Increment = 41
code_of symbols.Decrement = 42
code_of symbols.Static = 43
code_of symbols.Extern = 44
code_of symbols.Inline = 45
code_of symbols.Const = 46
code_of symbols.Enum = 47
code_of symbols.Void = 48
code_of symbols.If = 49
code_of symbols.Else = 50
code_of symbols.While = 51
code_of symbols.Do = 52
code_of symbols.For = 53
code_of symbols.Switch = 54
code_of symbols.Case = 55
code_of symbols.Default = 56
code_of symbols.Break = 57
code_of symbols.Continue = 58
code_of symbols.Return = 59
code_of symbols.Assert = 60
code_of symbols.Assume = 61

abbrev pub is_symbol : Symbol → Sign → Bool
is_symbol m (sign.Symbol x) = code_of x == code_of m
is_symbol m _ = false

-- the first token is this symbol
abbrev pub starts : Symbol → List Terminal → Bool
starts m [] = false
starts m (t ∷ ts) = is_symbol m t.sign
