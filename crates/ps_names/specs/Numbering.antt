-- The number of a condition.
use Rattle.std.specs.Prelude.{ℕ}
use Rattle.ps_types.specs.declared.denial.Condition.{Condition}
use Rattle.ps_types.specs.declared.denial.Condition.TheVariants.{C1, C2, C3, C4, C5, C6, C7, C8, C9, C10, C11, C12, C13, C14, C15, C16, C17, C18, C19, C20, C21, C22, C23, C24, C25, C26, C27, C28}

abbrev pub number_of : Condition → ℕ
number_of C1 = 1
number_of C2 = 2
number_of C3 = 3
number_of C4 = 4
number_of C5 = 5
number_of C6 = 6
number_of C7 = 7
number_of C8 = 8
number_of C9 = 9
number_of C10 = 10
number_of C11 = 11
number_of C12 = 12
number_of C13 = 13
number_of C14 = 14
number_of C15 = 15
number_of C16 = 16
number_of C17 = 17
number_of C18 = 18
number_of C19 = 19
number_of C20 = 20
number_of C21 = 21
number_of C22 = 22
number_of C23 = 23
number_of C24 = 24
number_of C25 = 25
number_of C26 = 26
number_of C27 = 27
number_of C28 = 28
