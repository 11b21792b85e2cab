-- The line of a text that doesn't load.
use Rattle.std.specs.Prelude.{ℕ, List, ◌∷◌, ◌++◌, codes}
use Rattle.std.specs.Fmt.{decimal}
use Rattle.sexp_text.specs.declared.fault.TextFault.{TextFault}
use Rattle.sexp_text.specs.declared.fault.TextFault.TheVariants.{TooLong, NotAscii, BadChar, Unopened, Deep, BadNumber, LongName, Unclosed}
use Rattle.rule_text.specs.declared.error.LoadFault.{LoadFault}
use Rattle.rule_text.specs.declared.error.LoadFault.TheVariants as load
use Rattle.report_text.specs.Lines.{line_of}
use Rattle.report_text.specs.declared.role.Role.{Role}
use Rattle.report_text.specs.declared.role.Role.TheVariants.{LeftSemantics, RightSemantics, LeftProgram, RightProgram, Points, Semantics, Program, Start}

-- the name of a text by its role
abbrev pub role_text : Role → List ℕ
role_text LeftSemantics = codes "left-semantics"
role_text RightSemantics = codes "right-semantics"
role_text LeftProgram = codes "left-program"
role_text RightProgram = codes "right-program"
role_text Points = codes "points"
role_text Semantics = codes "semantics"
role_text Program = codes "program"
role_text Start = codes "start"

-- the kind of a fault of the bytes
abbrev pub byte_fault_text : TextFault → List ℕ
byte_fault_text (TooLong offset) = codes "too-long"
byte_fault_text (NotAscii offset) = codes "not-ascii"
byte_fault_text (BadChar offset) = codes "bad-char"
byte_fault_text (Unopened offset) = codes "unopened"
byte_fault_text (Deep offset) = codes "deep"
byte_fault_text (BadNumber offset) = codes "bad-number"
byte_fault_text (LongName offset) = codes "long-name"
byte_fault_text (Unclosed offset) = codes "unclosed"

-- the byte at which it is
abbrev pub offset_of : TextFault → ℕ
offset_of (TooLong offset) = offset
offset_of (NotAscii offset) = offset
offset_of (BadChar offset) = offset
offset_of (Unopened offset) = offset
offset_of (Deep offset) = offset
offset_of (BadNumber offset) = offset
offset_of (LongName offset) = offset
offset_of (Unclosed offset) = offset

-- `KIND in item K`
abbrev pub in_item : List ℕ → ℕ → List ℕ
in_item kind k = kind ++ codes " in item " ++ decimal k

-- the kind of a fault and its place, where it has one
abbrev pub fault_words : LoadFault → List ℕ
fault_words (load.Text fault) = byte_fault_text fault ++ codes " at " ++ decimal (offset_of fault)
fault_words (load.Shape k) = in_item (codes "shape") k
fault_words (load.Name k) = in_item (codes "name") k
fault_words (load.Limit k) = in_item (codes "limit") k
fault_words (load.Sort k) = in_item (codes "sort") k
fault_words (load.Unbound k) = in_item (codes "unbound") k
fault_words (load.DoubleKey k) = in_item (codes "double-key") k
fault_words (load.Undetermined k) = in_item (codes "undetermined") k
fault_words load.NoConfig = codes "no-config"
fault_words load.NoPoint = codes "no-point"

-- `refused ROLE FAULT`
abbrev pub refusal_of : Role → LoadFault → List ℕ
refusal_of role fault = line_of (codes "refused " ++ role_text role ++ 32 ∷ fault_words fault)
