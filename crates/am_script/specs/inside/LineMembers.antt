-- The members of a line that are read token by token.
use Rattle.std.specs.Prelude.{◌≡◌, ℕ, ◌||◌, Bool, false, List, codes, Option, None, Some, IfSome}
use Rattle.std.specs.Str.{bytes_eq}
use Rattle.json.specs.Token.{Token}
use Rattle.serde_json.specs.Data.{Data, Members, object, put}
use Rattle.serde_json.specs.Find.{get_member}
use Rattle.serde_json.specs.Read.{read}
use Rattle.am_posts.specs.Bodies.{IsBodyOf}
use Rattle.am_posts.specs.Tokens.{AreMembers, IsValueOf}
use Rattle.am_script.specs.Commands.{moment_of, name_of, thread_of, verb_at}
use Rattle.am_script.specs.Puts.{alerts_at}
use Rattle.am_script.specs.declared.line_members.LineMembers.{LineMembers}

-- the names of the members that are read so
abbrev pub is_read : List ℕ → Bool
is_read name =
    bytes_eq name (codes "do") || (bytes_eq name (codes "thread") || (bytes_eq name (codes "at")
    || (bytes_eq name (codes "sub") || (bytes_eq name (codes "body") || bytes_eq name (codes "alerts")))))

-- what was read of a line is what an object's members say, and the object has no member of another name
pub record AreMembersOfLine (line : LineMembers) (members : Members) : Type 0 where
  pub verb : IfSome line.verb (λ verb. verb_at (object members) ≡ Some verb)
  pub thread : IfSome line.thread (λ thread. thread_of (object members) ≡ Some thread)
  pub at : IfSome line.at (λ at. moment_of (object members) ≡ Some at)
  pub name : IfSome line.name (λ name. name_of (object members) ≡ Some name)
  pub body : IfSome line.body
      (λ body. (d : Data) × (get_member (codes "body") members ≡ Some d) × IsBodyOf d body)
  pub alerts : IfSome line.alerts (λ alerts. alerts_at (object members) ≡ Some alerts)
  pub other : (name : List ℕ) → is_read name ≡ false → get_member name members ≡ None

-- a text is an object of these members
abbrev pub IsObjectOf : List ℕ → LineMembers → Type 0
IsObjectOf text line = (members : Members)
    × (read text ≡ Some (object members)) × AreMembersOfLine line members

-- the first tokens are those of members, and of the brace that closes their object
abbrev pub AreAhead : ℕ → List Token → List Token → LineMembers → Type 0
AreAhead depth old new line = (members : Members)
    × AreMembers depth old new members × AreMembersOfLine line members

-- the first tokens are those of a value, which is read as this
abbrev pub IsNextValue : {X : Type 0} → (Data → Option X) → List Token → List Token → X → Type 0
IsNextValue reads old new x = (d : Data) × ((depth : ℕ) → IsValueOf depth old new d) × (reads d ≡ Some x)

-- the first tokens are those of a member's value, with which the line has what there is then
abbrev pub AddsMember : ℕ → List ℕ → List Token → List Token → LineMembers → LineMembers → Type 0
AddsMember depth name old new was is = (d : Data) × IsValueOf depth old new d
    × ((members : Members) → AreMembersOfLine was members → AreMembersOfLine is (put name d members))
