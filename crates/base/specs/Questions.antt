-- The number of each question, by which a refusal is known. Assumes nothing.
use Rattle.std.specs.Prelude.{ℕ}
use Rattle.base.specs.declared.question.Question.{Question}
use Rattle.base.specs.declared.question.Question.TheVariants.{LineEnds, KeyDue, ValueFormed, NumberInRange, ListWithinLength, ListAscends, FileEnds, SameProblem, SliceLongEnough, LevelLimitInRange, RowLimitInRange, StateLargeEnough, TrialsInRange, NotExhausted, LastTryFound, TaskOpen, RowForTask, ConditionsHold, LevelRight, OpenWithinRows, WithinRowLimit, TextFits, WalkNotOver, FactWithinState}

abbrev pub number_of : Question → ℕ
number_of LineEnds = 1
number_of KeyDue = 2
number_of ValueFormed = 3
number_of NumberInRange = 4
number_of ListWithinLength = 5
number_of ListAscends = 6
number_of FileEnds = 7
number_of SameProblem = 8
number_of SliceLongEnough = 9
number_of LevelLimitInRange = 10
number_of RowLimitInRange = 11
number_of StateLargeEnough = 12
number_of TrialsInRange = 13
number_of NotExhausted = 14
number_of LastTryFound = 15
number_of TaskOpen = 16
number_of RowForTask = 17
number_of ConditionsHold = 18
number_of LevelRight = 19
number_of OpenWithinRows = 20
number_of WithinRowLimit = 21
number_of TextFits = 22
number_of WalkNotOver = 23
number_of FactWithinState = 24
