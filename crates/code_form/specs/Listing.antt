-- The listing of code: a line for each instruction.
use Rattle.std.specs.Prelude.{ℕ, suc, ◌-◌, nat_lt, if◌then◌else◌, Bool, true, false, List, [], ◌∷◌, ◌++◌, flat_map, length, codes, Option, Some, None, slice_get}
use Rattle.std.specs.Fmt.{decimal, signed_decimal}
use Rattle.eu_base.specs.declared.value.Kind.{Kind}
use Rattle.eu_base.specs.declared.value.Kind.TheVariants as kinds
use Rattle.eu_base.specs.declared.shape.Shape.{Shape}
use Rattle.eu_base.specs.declared.shape.Shape.TheOpen.{Shape-F, Cell, Row, Struct}
use Rattle.eu_base.specs.declared.shape.Shape.TheFolds.{fold-Shape}
use Rattle.eu_base.specs.declared.operation.Operation.{Operation}
use Rattle.eu_base.specs.declared.operation.Operation.TheVariants.{Plus, Negate, Add, Subtract, Multiply, Divide, Modulo, Equal, Unequal, Less, LessEqual}
use Rattle.eu_base.specs.declared.operation.Operation.TheVariants.{Greater, GreaterEqual, Same, Different, And, Or, Not, Absolute, Minimum, Maximum, Largest, NoTask, SameTask, OtherTask, NilSpace, OnTexts}
use Rattle.eu_base.specs.declared.text_operation.TextOperation.{TextOperation}
use Rattle.eu_base.specs.declared.text_operation.TextOperation.TheVariants as texts
use Rattle.eu_base.specs.declared.space_operation.SpaceOperation.{SpaceOperation}
use Rattle.eu_base.specs.declared.space_operation.SpaceOperation.TheVariants as spaces
use Rattle.eu_base.specs.declared.operation.Change.{Change}
use Rattle.eu_base.specs.declared.operation.Change.TheVariants.{Increase, Decrease, Append}
use Rattle.eu_base.specs.declared.operation.Way.{Way}
use Rattle.eu_base.specs.declared.operation.Way.TheVariants as ways
use Rattle.eu_base.specs.declared.request.RequestName.{RequestName}
use Rattle.eu_base.specs.declared.request.RequestName.TheVariants as requests
use Rattle.code_form.specs.declared.instr.Instr.{Instr}
use Rattle.code_form.specs.declared.instr.Instr.TheVariants.{Mark, Number, Truth, Text, Outer, Packet as InPackets, Local, Param, Index, Field, Content, Pick, Take, Load, Store, Do, OnSpaces, Copy, Bind, Modify, Jump, False}
use Rattle.code_form.specs.declared.instr.Instr.TheVariants.{When, Drop, Limit, Unlimit, Step, Ask, ErrorStop, Call, Refer, Back, Out, End}
use Rattle.code_form.specs.declared.code.Line.{Line}
use Rattle.code_form.specs.declared.code.Entry.{Entry}
use Rattle.cell_kinds.specs.declared.packet.Packet.{Packet}
use Rattle.cell_kinds.specs.Kinds.{body_in_packet}
use Rattle.code_form.specs.Program.{Program, layout_of, cells_at}

abbrev pub truth_word : Bool → List ℕ
truth_word true = codes "TRUE"
truth_word false = codes "FALSE"

abbrev pub kind_word : Kind → List ℕ
kind_word kinds.Int = codes "INT"
kind_word kinds.Truth = codes "BOOL"
kind_word kinds.Text = codes "TEXT"
kind_word kinds.Task = codes "TASK"
kind_word kinds.Space = codes "DATASPACE"

-- with commas between
abbrev pub listed : List (List ℕ) → List ℕ
listed [] = []
listed (text ∷ texts) = text ++ flat_map (λ text. codes "," ++ text) texts

abbrev pub shape_step : Shape-F (List ℕ) → List ℕ
shape_step (Cell kind) = kind_word kind
shape_step (Row count of) = codes "ROW " ++ decimal count ++ codes " " ++ of
shape_step (Struct parts) = codes "STRUCT(" ++ listed parts ++ codes ")"

abbrev pub shape_text : Shape → List ℕ
shape_text = fold-Shape (List ℕ) shape_step

abbrev pub way_word : Way → List ℕ
way_word ways.Up = codes "UP"
way_word ways.Down = codes "DOWN"

abbrev pub text_operation_name : TextOperation → List ℕ
text_operation_name texts.Join = codes "+"
text_operation_name texts.Repeat = codes "*"
text_operation_name texts.Equal = codes "="
text_operation_name texts.Unequal = codes "<>"
text_operation_name texts.Less = codes "<"
text_operation_name texts.LessEqual = codes "<="
text_operation_name texts.Greater = codes ">"
text_operation_name texts.GreaterEqual = codes ">="
text_operation_name texts.ByteAt = codes "SUB"
text_operation_name texts.Length = codes "LENGTH"
text_operation_name texts.PlaceOf = codes "pos"
text_operation_name texts.Subtext = codes "subtext"
text_operation_name texts.SubtextFrom = codes "subtext"
text_operation_name texts.CodeOf = codes "code"
text_operation_name texts.TextOfCode = codes "code"
text_operation_name texts.TextOfNumber = codes "text"
text_operation_name texts.NumberIn = codes "int"

abbrev pub operation_name : Operation → List ℕ
operation_name Plus = codes "+"
operation_name Negate = codes "-"
operation_name Add = codes "+"
operation_name Subtract = codes "-"
operation_name Multiply = codes "*"
operation_name Divide = codes "DIV"
operation_name Modulo = codes "MOD"
operation_name Equal = codes "="
operation_name Unequal = codes "<>"
operation_name Less = codes "<"
operation_name LessEqual = codes "<="
operation_name Greater = codes ">"
operation_name GreaterEqual = codes ">="
operation_name Same = codes "="
operation_name Different = codes "<>"
operation_name And = codes "AND"
operation_name Or = codes "OR"
operation_name Not = codes "NOT"
operation_name Absolute = codes "abs"
operation_name Minimum = codes "min"
operation_name Maximum = codes "max"
operation_name Largest = codes "maxint"
operation_name NoTask = codes "TASK"
operation_name SameTask = codes "="
operation_name OtherTask = codes "<>"
operation_name NilSpace = codes "DATASPACE"
operation_name (OnTexts op) = text_operation_name op

-- the word before it: niltask and nilspace are the nil values of their types, and all else is done
abbrev pub operation_word : Operation → List ℕ
operation_word NoTask = codes "NIL "
operation_word NilSpace = codes "NIL "
operation_word _ = codes "DO "

abbrev pub change_name : Change → List ℕ
change_name Increase = codes "INCR"
change_name Decrease = codes "DECR"
change_name Append = codes "CAT"

abbrev pub space_operation_name : SpaceOperation → List ℕ
space_operation_name spaces.KindOf = codes "type"
space_operation_name spaces.New = codes "new"
space_operation_name spaces.Old = codes "old"
space_operation_name spaces.IsNamed = codes "exists"
space_operation_name spaces.SetKind = codes "type"
space_operation_name spaces.Forget = codes "forget"
space_operation_name spaces.ForgetNamed = codes "forget"
space_operation_name spaces.Rename = codes "rename"
space_operation_name spaces.CopyNamed = codes "copy"

abbrev pub request_name : RequestName → List ℕ
request_name requests.PutNumber = codes "put(INT)"
request_name requests.PutText = codes "put(TEXT)"
request_name requests.Write = codes "write(TEXT)"
request_name requests.PutLine = codes "putline(TEXT)"
request_name requests.Line = codes "line"
request_name requests.GetNumber = codes "get(INT)"
request_name requests.GetText = codes "get(TEXT)"
request_name requests.GetLine = codes "getline(TEXT)"
request_name requests.Myself = codes "myself"
request_name requests.Father = codes "father"
request_name requests.FatherOf = codes "father(TASK)"
request_name requests.Son = codes "son(TASK)"
request_name requests.Brother = codes "brother(TASK)"
request_name requests.Named = codes "task(TEXT)"
request_name requests.NameOf = codes "name(TASK)"
request_name requests.Exists = codes "exists(TASK)"
request_name (requests.Begin start) = codes "begin(TEXT,PROC "
request_name requests.EndOf = codes "end(TASK)"
request_name requests.End = codes "end"
request_name requests.Break = codes "break"
request_name requests.Send = codes "send(TASK,INT,DATASPACE,INT)"
request_name requests.Wait = codes "wait(DATASPACE,INT,TASK)"
request_name requests.Call = codes "call(TASK,INT,DATASPACE,INT)"

-- where a body begins, and how many cells its frame has for its parameters and variables
abbrev pub first_of : Option Entry → ℕ
first_of None = 0
first_of (Some e) = e.first

abbrev pub cells_of_frame : Option Entry → ℕ
cells_of_frame e = length (cells_at (layout_of e))

-- the number of the packet that has a cell, and the cell's number there. Behind those of the task stands the one that is inserted, by 0
abbrev pub cell_in_packet : List Packet → ℕ → ℕ × ℕ
cell_in_packet [] k = (0, k)
cell_in_packet (p ∷ ps) k = if nat_lt k (length p.variables) then (p.number, k) else cell_in_packet ps (k - length p.variables)

abbrev pub packet_text : ℕ × ℕ → List ℕ
packet_text at = decimal at.0 ++ codes " " ++ decimal at.1

-- behind the name of a request stands its start procedure, by its packet and its number there
abbrev pub start_text : List Packet → RequestName → List ℕ
start_text packets (requests.Begin start) = packet_text (body_in_packet packets start) ++ codes ",TASK)"
start_text packets _ = []

-- the word of an instruction, and each argument after a blank. A text is told by its number, since so many stand before it
abbrev pub instr_text : List Packet → List Entry → ℕ → Instr → List ℕ
instr_text packets bodies texts Mark = codes "MARK"
instr_text packets bodies texts (Number z) = codes "INT " ++ signed_decimal z
instr_text packets bodies texts (Truth b) = codes "BOOL " ++ truth_word b
instr_text packets bodies texts (Text t) = codes "TEXT " ++ decimal texts
instr_text packets bodies texts (Outer k) = codes "OUTER " ++ decimal k
instr_text packets bodies texts (InPackets k) = codes "PACK " ++ packet_text (cell_in_packet packets k)
instr_text packets bodies texts (Local k) = codes "LOCAL " ++ decimal k
instr_text packets bodies texts (Param k) = codes "PARAM " ++ decimal k
instr_text packets bodies texts (Index n c) = codes "INDEX " ++ decimal n ++ codes " " ++ decimal c
instr_text packets bodies texts (Field c) = codes "FIELD " ++ decimal c
instr_text packets bodies texts Content = codes "CONTENT"
instr_text packets bodies texts (Pick n c) = codes "PICK " ++ decimal n ++ codes " " ++ decimal c
instr_text packets bodies texts (Take m c k) = codes "TAKE " ++ decimal m ++ codes " " ++ decimal c ++ codes " " ++ decimal k
instr_text packets bodies texts (Load s) = codes "LOAD " ++ shape_text s
instr_text packets bodies texts (Store s) = codes "STORE " ++ shape_text s
instr_text packets bodies texts (Do op) = operation_word op ++ operation_name op
instr_text packets bodies texts (OnSpaces op) = codes "DO " ++ space_operation_name op
instr_text packets bodies texts Copy = codes "COPY"
instr_text packets bodies texts (Bind s) = codes "BIND " ++ shape_text s
instr_text packets bodies texts (Modify change) = codes "DO " ++ change_name change
instr_text packets bodies texts (Jump a) = codes "JUMP " ++ decimal a
instr_text packets bodies texts (False a) = codes "FALSE " ++ decimal a
instr_text packets bodies texts (When z a) = codes "WHEN " ++ signed_decimal z ++ codes " " ++ decimal a
instr_text packets bodies texts Drop = codes "DROP"
instr_text packets bodies texts (Limit way a) = codes "LIMIT " ++ way_word way ++ codes " " ++ decimal a
instr_text packets bodies texts Unlimit = codes "UNLIMIT"
instr_text packets bodies texts (Step way a) = way_word way ++ codes " " ++ decimal a
instr_text packets bodies texts (Ask name) = codes "ASK " ++ request_name name ++ start_text packets name
instr_text packets bodies texts ErrorStop = codes "DO errorstop"
instr_text packets bodies texts (Call n) = codes "CALL " ++ decimal (first_of (slice_get bodies n)) ++ codes " " ++ decimal (cells_of_frame (slice_get bodies n))
instr_text packets bodies texts (Refer n) = codes "REFER " ++ decimal (first_of (slice_get bodies n))
instr_text packets bodies texts (Back s) = codes "BACK"
instr_text packets bodies texts (Out s) = codes "OUT"
instr_text packets bodies texts End = codes "END"

-- its number, a blank, and its text
abbrev pub line_text : List Packet → List Entry → ℕ → ℕ → Instr → List ℕ
line_text packets bodies texts k i = decimal k ++ codes " " ++ instr_text packets bodies texts i ++ 10 ∷ []

-- the texts up to an instruction, where so many stand before it
abbrev pub texts_with : ℕ → Instr → ℕ
texts_with texts (Text t) = suc texts
texts_with texts i = texts

abbrev pub listing_from : List Packet → List Entry → ℕ → ℕ → List Line → List ℕ
listing_from packets bodies texts k [] = []
listing_from packets bodies texts k (l ∷ ls) = line_text packets bodies texts k l.instr ++ listing_from packets bodies (texts_with texts l.instr) (suc k) ls

abbrev pub listing_text : Program → List ℕ
listing_text p = listing_from p.packets p.bodies 0 0 p.lines
