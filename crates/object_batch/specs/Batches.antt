-- Several object texts put in order: all of them, or none where one is refused.
use Rattle.std.specs.Prelude.{◌≡◌, ◌≢◌, ◌<◌, ◌⊎◌, ◌+◌, ◌&&◌, not, Bool, ℕ, List, [], ◌∷◌, ◌++◌, length, reverse, All, Contains, Option, Some, None, Result, Ok, Err, find, true, false, is_some, if◌then◌else◌, ⊤}
use Rattle.std.specs.List.{list_any}
use Rattle.std.specs.Option.{option_map}
use Rattle.std.specs.Str.{bytes_eq}
use Rattle.gb_text.specs.declared.id.Name.{Name}
use Rattle.gb_store.specs.Files.{Files, History, files_of, written}
use Rattle.gb_store.specs.Moments.{WroteSome}
use Rattle.gb_store.specs.declared.store.Change.{Change}
use Rattle.git_object.specs.Grammar.{object_name}
use Rattle.object_store.specs.Held.{Objects, objects_in, text_at}
use Rattle.object_store.specs.declared.read.TheConstants.{MOST_BYTES}
use Rattle.object_store.specs.Texts.{IsShort}
use Rattle.object_store.specs.Puts.{IsPut, IsTaken, object_write}
use Rattle.object_store.specs.declared.fault.PutFault.{PutFault}
use Rattle.object_store.specs.declared.fault.PutFault.TheVariants as fault

-- ---- why texts are refused

-- one of the texts has more than 4,194,304 bytes
pub record HasLong (texts : List (List ℕ)) : Type 0 where
  pub text : List ℕ
  pub member : Contains texts text
  pub long : MOST_BYTES < length text

-- another text stands under the name of one of the texts
pub record HasTaken (folder : List ℕ) (texts : List (List ℕ)) (old : History) (name : Name) : Type 0 where
  pub text : List ℕ
  pub member : Contains texts text
  pub is_named : object_name text ≡ name
  pub taken : IsTaken folder text old

-- two of the texts differ and have one name
pub record HasClash (texts : List (List ℕ)) (name : Name) : Type 0 where
  pub one : List ℕ
  pub two : List ℕ
  pub member_one : Contains texts one
  pub member_two : Contains texts two
  pub differ : one ≢ two
  pub named_one : object_name one ≡ name
  pub named_two : object_name two ≡ name

-- a name that cannot have its text
abbrev pub CannotHave : List ℕ → List (List ℕ) → History → Name → Type 0
CannotHave folder texts old name = HasTaken folder texts old name ⊎ HasClash texts name

-- none of the texts is refused
pub record MayBePut (folder : List ℕ) (texts : List (List ℕ)) (old : History) : Type 0 where
  pub short : All IsShort texts
  pub free : (name : Name) → CannotHave folder texts old name → ⊥

-- the answer to whether none of the texts is too long
abbrev pub SizesAnswer : List (List ℕ) → Result Unit PutFault → Type 0
SizesAnswer texts (Ok _) = All IsShort texts
SizesAnswer texts (Err (fault.Large count)) = (count ≡ MOST_BYTES + 1) × HasLong texts
SizesAnswer texts (Err _) = ⊥

-- ---- what is written

-- the texts were put in this order, each where nothing stood; where the text stood, nothing was written
abbrev pub ArePut : List ℕ → List (List ℕ) → History → History → Type 0
ArePut folder [] old new = new ≡ old
ArePut folder (text ∷ texts) old new = (mid : History) × IsPut folder text old mid × ArePut folder texts mid new

-- the writes of these texts in order, each where nothing stands under its name
abbrev pub missing_writes : List ℕ → List (List ℕ) → Files → List Change
missing_writes folder [] files = []
missing_writes folder (text ∷ texts) files =
    if is_some (objects_in files folder (object_name text)) then missing_writes folder texts files
    else object_write folder text ∷ missing_writes folder texts (written files (object_write folder text))

-- each of these texts is held under its name
abbrev pub AllStand : Objects → List (List ℕ) → Type 0
AllStand objects texts = All (λ text. text_at objects (object_name text) ≡ Some text) texts

-- nothing was written, or none of the texts is refused and the first of the missing ones were put
abbrev pub StoppedPut : List ℕ → List (List ℕ) → History → History → Type 0
StoppedPut folder texts old new = (new ≡ old) ⊎ (MayBePut folder texts old × WroteSome (missing_writes folder texts (files_of old)) old new)

-- the answer to a put of texts, and what was written: the missing ones, in order
abbrev pub BatchAnswers : List ℕ → List (List ℕ) → History → History → Result Unit PutFault → Type 0
BatchAnswers folder texts old new (Ok _) = MayBePut folder texts old × (new ≡ reverse (missing_writes folder texts (files_of old)) ++ old)
BatchAnswers folder texts old new (Err (fault.Large count)) = (count ≡ MOST_BYTES + 1) × HasLong texts × (new ≡ old)
BatchAnswers folder texts old new (Err (fault.Taken name)) = All IsShort texts × CannotHave folder texts old name × (new ≡ old)
BatchAnswers folder texts old new (Err fault.Memory) = StoppedPut folder texts old new
BatchAnswers folder texts old new (Err fault.Disk) = StoppedPut folder texts old new

-- ---- the parts of a put

-- the two texts differ and have one name
abbrev pub do_clash : List ℕ → List ℕ → Bool
do_clash one two = bytes_eq (object_name one).bytes (object_name two).bytes && not (bytes_eq one two)

-- the name of the first text that another, different one of the texts has too
abbrev pub clash_in : List (List ℕ) → Option Name
clash_in texts = option_map object_name (find (λ one. list_any (do_clash one) texts) texts)

-- nothing stands under the name of a text, or the text does
abbrev pub IsFree : List ℕ → History → List ℕ → Type 0
IsFree folder old text =
    (objects_in (files_of old) folder (object_name text) ≡ None) ⊎ (objects_in (files_of old) folder (object_name text) ≡ Some text)

-- texts of one name are one text
abbrev pub AreApart : List (List ℕ) → Type 0
AreApart texts = (one two : List ℕ) → Contains texts one → Contains texts two → object_name one ≡ object_name two → one ≡ two

-- the two texts have one name
abbrev pub share_a_name : List ℕ → List ℕ → Bool
share_a_name one two = bytes_eq (object_name one).bytes (object_name two).bytes

-- one of the texts has the name of this one
abbrev pub is_among : List ℕ → List (List ℕ) → Bool
is_among text texts = list_any (share_a_name text) texts

-- the answer to whether a text is to be written behind earlier ones
abbrev pub IsMissing : List ℕ → List ℕ → List (List ℕ) → History → Result Bool PutFault → Type 0
IsMissing folder text earlier old (Ok true) = (objects_in (files_of old) folder (object_name text) ≡ None) × (is_among text earlier ≡ false)
IsMissing folder text earlier old (Ok false) =
    (objects_in (files_of old) folder (object_name text) ≡ Some text)
    ⊎ ((objects_in (files_of old) folder (object_name text) ≡ None) × (is_among text earlier ≡ true))
IsMissing folder text earlier old (Err (fault.Large count)) = ⊥
IsMissing folder text earlier old (Err (fault.Taken name)) = (object_name text ≡ name) × IsTaken folder text old
IsMissing folder text earlier old (Err fault.Memory) = ⊤
IsMissing folder text earlier old (Err fault.Disk) = ⊤

-- a text's write was added to some, where it is missing
abbrev pub AddsMissing : List ℕ → List ℕ → List (List ℕ) → History → List Change → List Change → Result Unit PutFault → Type 0
AddsMissing folder text earlier old before after (Ok _) =
    (IsMissing folder text earlier old (Ok true) × (after ≡ before ++ object_write folder text ∷ []))
    ⊎ (IsMissing folder text earlier old (Ok false) × (after ≡ before))
AddsMissing folder text earlier old before after (Err e) = IsMissing folder text earlier old (Err e)

-- the answer to which writes put these texts, each where it does not stand
abbrev pub AreMissing : List ℕ → List (List ℕ) → History → Result (List Change) PutFault → Type 0
AreMissing folder texts old (Ok changes) = All (IsFree folder old) texts × ArePut folder texts old (reverse changes ++ old)
AreMissing folder texts old (Err (fault.Large count)) = ⊥
AreMissing folder texts old (Err (fault.Taken name)) = HasTaken folder texts old name
AreMissing folder texts old (Err fault.Memory) = ⊤
AreMissing folder texts old (Err fault.Disk) = ⊤

-- the answer to a plan of a put: the missing writes, or why a text is refused
abbrev pub PlanAnswers : List ℕ → List (List ℕ) → History → Result (List Change) PutFault → Type 0
PlanAnswers folder texts old (Ok changes) = MayBePut folder texts old × (changes ≡ missing_writes folder texts (files_of old))
PlanAnswers folder texts old (Err (fault.Large count)) = (count ≡ MOST_BYTES + 1) × HasLong texts
PlanAnswers folder texts old (Err (fault.Taken name)) = All IsShort texts × CannotHave folder texts old name
PlanAnswers folder texts old (Err fault.Memory) = ⊤
PlanAnswers folder texts old (Err fault.Disk) = ⊤
