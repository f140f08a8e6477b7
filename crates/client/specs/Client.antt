-- Places 7 to 17 of document 01: fields 3 to 6, the client and the other party.
-- Assumes nothing.
use Rattle.std.specs.Prelude.{ℕ, Bool, ◌&&◌, ◌||◌, not, cond, List, [], ◌∷◌}
use Rattle.text.specs.Bytes.{same}
use Rattle.identifier.specs.Identifier.{bank_code, swift_form, same_address, name_up_to}
use Rattle.fields.specs.Forms.{blank, filled, longer, is, one_of, starts}

-- a field lacks the form that its kind asks: five digits, SWIFT form, or 1 to 8 capitals or digits
unfoldable pub lacks_form : List ℕ → List ℕ → Bool
lacks_form kind f = is kind "B" && not (bank_code f) || is kind "S" && not (swift_form f) || is kind "N" && not (name_up_to 8 f)

-- two identifications of one kind are the same; for S, eight bytes are first completed with XXX
unfoldable pub same_party : List ℕ → List ℕ → List ℕ → Bool
same_party kind f g = cond (is kind "S") (same_address f g) (same f g)

unfoldable pub client_tests : List ℕ → List ℕ → List ℕ → List ℕ → List Bool
client_tests f3 f4 f5 f6 =
    -- 7 0030 F3 blank
    blank f3
    -- 8 0031 F3 filled, not B, S, N, I
    ∷ (filled f3 && not (one_of f3 "BSNI"))
    -- 9 0040 F4 blank
    ∷ blank f4
    -- 10 0041 F4 filled, F3=B, not five digits
    ∷ (filled f4 && is f3 "B" && not (bank_code f4))
    -- 11 0042 F4 filled, F3=S, not SWIFT form
    ∷ (filled f4 && is f3 "S" && not (swift_form f4))
    -- 12 0044 F4 filled, F3=N, not 1 to 8 capitals or digits
    ∷ (filled f4 && is f3 "N" && not (name_up_to 8 f4))
    -- 13 9045 F4 filled, F3=I, over 16 bytes
    ∷ (filled f4 && is f3 "I" && longer 16 f4)
    -- 14 9051 F5 filled, not B, S, N
    ∷ (filled f5 && not (one_of f5 "BSN"))
    -- 15 9060 one of F5, F6 blank, the other filled
    ∷ (blank f5 && filled f6 || filled f5 && blank f6)
    -- 16 9061 F6 filled, F5 is B, S or N, and F6 lacks that kind's form, or F5=N and F6 starts with W
    ∷ (filled f6 && (lacks_form f5 f6 || is f5 "N" && starts f6 "W"))
    -- 17 9062 F5 filled, F3=F5 and F4=F6
    ∷ (filled f5 && same f3 f5 && same_party f3 f4 f6)
    ∷ []
