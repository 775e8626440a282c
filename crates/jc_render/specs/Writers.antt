-- What contracts see of the writers and of the board. (own)
use Rattle.std.specs.Prelude.{Bool, List}
use Rattle.jc_render.specs.declared.board.Board.{Board}
use Rattle.jc_render.specs.declared.board.Line.{Line}
use Rattle.jc_render.specs.declared.noting.Noting.{Noting}
use Rattle.jc_render.specs.declared.noting.Trouble.{Trouble}
use Rattle.jc_render.specs.declared.objects.Json.{Json}

-- for no object memory was refused
abbrev pub has_all_objects : {W : Type 0} → Json W → Bool
has_all_objects json = json.has_memory

-- what it has noted, in the order in which it came
abbrev pub troubles_of : {W : Type 0} → Noting W → List Trouble
troubles_of noting = noting.troubles.items

-- the line of a board
abbrev pub line_of : Board → Line
line_of board = board.line

-- the terminal has a line of the board
abbrev pub is_shown : Board → Bool
is_shown board = board.is_there
