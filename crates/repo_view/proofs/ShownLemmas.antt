-- What is shown is determined by the operation commits and the names of their authors; and in a sound folder nothing of it is damaged.
use Rattle.std.proofs.Common.{◌≡◌, ℕ, inl, inr, Bool, true, false, not, List, [], ◌∷◌, ◌++◌, map, filter, flat_map, filter_map, Ok, Err, refl, sym, ◌∙◌, ap, subst, arith}
use Rattle.std.specs.Prelude.{codes, if◌then◌else◌}
use Rattle.std.specs.List.{AllByRecursion}
use Rattle.gb_text.specs.Folder.{joined}
use Rattle.gb_text.specs.declared.id.Id.{Id}
use Rattle.gb_store.specs.Files.{Files}
use Rattle.object_store.specs.Held.{objects_in}
use Rattle.identity.specs.Persons.{IsChain}
use Rattle.identity.specs.declared.chain.Person.{Person}
use Rattle.identity.proofs.NoFaultLemmas.{no_fault_at}
use Rattle.bug_ops.specs.Kind.{bug_kind}
use Rattle.bug_ops.specs.Snapshots.{same_id}
use Rattle.bug_ops.specs.declared.op.BugOp.{BugOp}
use Rattle.bug_ops.specs.declared.op.BugOp.TheVariants.{Create, SetTitle, AddComment, SetStatus, LabelChange, EditComment, SetMetadata, NoOp}
use Rattle.bug_ops.specs.declared.snapshot.Comment.{Comment}
use Rattle.dag_entity.specs.Faults.{EntityFaultHolds}
use Rattle.dag_entity.specs.declared.fault.EntityFault.{EntityFault}
use Rattle.dag_entity.proofs.LawOrders.{one_list}
use Rattle.snapshot.specs.LastMention.{IsBugList, actors_of, author_of, commenter_in, comments_of, each_once, participants_of, row_of, snapshot_of}
use Rattle.person_names.specs.Named.{name_among}
use Rattle.render.specs.Lines.{told_line}
use Rattle.render.specs.Show.{comment_lines, person_line, person_lines, show_text_of}
use Rattle.render.specs.Users.{users_text_of}
use Rattle.repo_state.specs.Answers.{HasBadPerson, IsBadPerson}
use Rattle.repo_state.specs.Bugs.{AreLocal, FindsBug, IsDamagedBug}
use Rattle.repo_state.specs.Finds.{Finds, One}
use Rattle.repo_state.specs.Sides.{ref_place}
use Rattle.repo_state.specs.Sound.{IsSound, IsSoundIdentity}
use Rattle.repo_state.specs.Sound as parts
use Rattle.repo_state.specs.declared.side.HeadEntry.{HeadEntry}
use Rattle.repo_state.specs.declared.side.Side.TheVariants as side
use Rattle.repo_state.specs.declared.stop.FindStop.TheVariants as stop
use Rattle.repo_state.specs.declared.stop.Missed.{Missed}
use Rattle.repo_state.specs.declared.stop.Missed.TheVariants as missed
use Rattle.repo_state.specs.declared.stop.ReadStop.TheVariants as read
use Rattle.repo_state.proofs.BugLemmas.{bug_no_fault, bug_not_damaged, one_bug}
use Rattle.repo_state.proofs.FoundLemmas.{finds_not_both, finds_not_many, finds_the_same}
use Rattle.repo_state.proofs.UndamagedLemmas.{no_bad_found}
use Rattle.repo_view.specs.Shown.{AgreeOnAuthors, HaveSameCommits, IsShown, ShowAnswers, UsersAnswers}
use Rattle.repo_view.proofs.PeopleLemmas.{no_bad_among, one_people, one_user, user_not_bad}

-- ---- lists

-- lines that are the same for each item are the same
same_lines : {X : Type 0} (f g : X → List ℕ) (xs : List X) → AllByRecursion (λ x. f x ≡ g x) xs → flat_map f xs ≡ flat_map g xs
same_lines f g [] same = refl
same_lines f g (x ∷ xs) same = ap (λ (l : List ℕ). l ++ flat_map f xs) same.0 ∙ ap (λ (l : List ℕ). g x ++ l) (same_lines f g xs same.1)

-- what is so of all is so of those that pass a test
all_filtered : {X : Type 0} (P : X → Type 0) (p : X → Bool) (xs : List X) → AllByRecursion P xs → AllByRecursion P (filter p xs)
all_filtered P p [] all = tt
all_filtered P p (x ∷ xs) all = on_test (p x) (all_filtered P p xs all.1)
  where
    on_test : (b : Bool) → AllByRecursion P (filter p xs) → AllByRecursion P (if b then x ∷ filter p xs else filter p xs)
    on_test true rest = (all.0, rest)
    on_test false rest = rest

-- what follows for each follows for all
all_so : {X : Type 0} (P Q : X → Type 0) (xs : List X) → ((x : X) → P x → Q x) → AllByRecursion P xs → AllByRecursion Q xs
all_so P Q [] so all = tt
all_so P Q (x ∷ xs) so all = (so x all.0, all_so P Q xs so all.1)

-- and of each once
all_once : (P : Id → Type 0) (ids : List Id) → AllByRecursion P ids → AllByRecursion P (each_once ids)
all_once P [] all = tt
all_once P (id ∷ ids) all = (all.0, all_filtered P (λ other. not (same_id id other)) (each_once ids) (all_once P ids all.1))

-- ---- the persons that a bug names

module _ (P : Id → Type 0) where
  abbrev Each : List BugOp → Type 0
  Each ops = AllByRecursion (λ o. P (author_of o)) ops

  all_authors : (ops : List BugOp) → Each ops → AllByRecursion P (map author_of ops)
  all_authors [] all = tt
  all_authors (o ∷ ops) all = (all.0, all_authors ops all.1)

  all_commenters : (ops : List BugOp) → Each ops → AllByRecursion P (filter_map commenter_in ops)
  all_commenters [] all = tt
  all_commenters (Create c title message files ∷ ops) all = (all.0, all_commenters ops all.1)
  all_commenters (AddComment c message files ∷ ops) all = (all.0, all_commenters ops all.1)
  all_commenters (SetTitle c title was ∷ ops) all = all_commenters ops all.1
  all_commenters (SetStatus c status ∷ ops) all = all_commenters ops all.1
  all_commenters (LabelChange c added removed ∷ ops) all = all_commenters ops all.1
  all_commenters (EditComment c target message files ∷ ops) all = all_commenters ops all.1
  all_commenters (SetMetadata c target pairs ∷ ops) all = all_commenters ops all.1
  all_commenters (NoOp c ∷ ops) all = all_commenters ops all.1

  all_comments : (ops : List BugOp) → Each ops → AllByRecursion (λ (comment : Comment). P comment.author) (comments_of ops)
  all_comments [] all = tt
  all_comments (Create c title message files ∷ ops) all = (all.0, all_comments ops all.1)
  all_comments (AddComment c message files ∷ ops) all = (all.0, all_comments ops all.1)
  all_comments (SetTitle c title was ∷ ops) all = all_comments ops all.1
  all_comments (SetStatus c status ∷ ops) all = all_comments ops all.1
  all_comments (LabelChange c added removed ∷ ops) all = all_comments ops all.1
  all_comments (EditComment c target message files ∷ ops) all = all_comments ops all.1
  all_comments (SetMetadata c target pairs ∷ ops) all = all_comments ops all.1
  all_comments (NoOp c ∷ ops) all = all_comments ops all.1

-- ---- one text

-- the lines of persons are the same where their names are
same_persons : (people persons : List Person) (o : BugOp) (later : List BugOp) → Each (λ id. name_among people id ≡ name_among persons id) (o ∷ later)
    → person_lines people (row_of o later) ≡ person_lines persons (row_of o later)
same_persons people persons o later same =
    let Same : Id → Type 0 = λ id. name_among people id ≡ name_among persons id in
    let line : (word : List ℕ) (id : Id) → Same id → person_line people word id ≡ person_line persons word id = λ word id e. ap (λ (name : List ℕ). told_line word name) e in
    let actors = same_lines (person_line people (codes "actor")) (person_line persons (codes "actor")) (actors_of (o ∷ later))
    (all_so Same (λ id. person_line people (codes "actor") id ≡ person_line persons (codes "actor") id) (actors_of (o ∷ later)) (line (codes "actor"))
    (all_once Same (map author_of (o ∷ later)) (all_authors Same (o ∷ later) same))) in
    let participants = same_lines (person_line people (codes "participant")) (person_line persons (codes "participant")) (participants_of (o ∷ later))
    (all_so Same (λ id. person_line people (codes "participant") id ≡ person_line persons (codes "participant") id) (participants_of (o ∷ later)) (line (codes "participant"))
    (all_once Same (filter_map commenter_in (o ∷ later)) (all_commenters Same (o ∷ later) same))) in
    cc (same.0, actors, participants)

-- so are the lines of comments
same_comments : (people persons : List Person) (bug : Id) (ops : List BugOp) → Each (λ id. name_among people id ≡ name_among persons id) ops
    → flat_map (comment_lines people bug) (comments_of ops) ≡ flat_map (comment_lines persons bug) (comments_of ops)
same_comments people persons bug ops same =
    same_lines (comment_lines people bug) (comment_lines persons bug) (comments_of ops)
    (all_so (λ (comment : Comment). name_among people comment.author ≡ name_among persons comment.author) (λ comment. comment_lines people bug comment ≡ comment_lines persons bug comment)
    (comments_of ops) (λ comment e. cc (e)) (all_comments (λ id. name_among people id ≡ name_among persons id) ops same))

-- so is the whole text
same_text : (people persons : List Person) (ops : List BugOp) → IsBugList ops → Each (λ id. name_among people id ≡ name_among persons id) ops
    → show_text_of (snapshot_of ops) people ≡ show_text_of (snapshot_of ops) persons
same_text people persons [] begins same = absurd begins
same_text people persons (o ∷ later) begins same = cc (same_persons people persons o later same, same_comments people persons (row_of o later).id (o ∷ later) same)

-- bugs with the same operation commits are shown as the same text, where their authors have the same names
pub same_shown : (files others : Files) (folder place word words one two : List ℕ) (bug top : HeadEntry) → FindsBug files folder word bug → FindsBug others place words top
    → HaveSameCommits files folder bug others place top → AgreeOnAuthors files folder bug others place
    → ShowAnswers files folder word (Ok one) → ShowAnswers others place words (Ok two) → one ≡ two
same_shown files others folder place word words one two bug top finds found commits agree first second =
    let here : IsShown files folder bug one = subst (λ (b : HeadEntry). IsShown files folder b one) (one_bug files folder word first.0 bug first.1 finds) first.2 in
    let there : IsShown others place top two = subst (λ (b : HeadEntry). IsShown others place b two) (one_bug others place words second.0 top second.1 found) second.2 in
    let ops = one_list bug_kind (objects_in files folder) (objects_in others place) (bug.name ∷ []) (top.name ∷ []) here.ops there.ops commits here.are there.are in
    let names = agree here.ops here.people there.people here.are here.are_people there.are_people in
    here.is ∙ same_text here.people there.people here.ops here.begins names ∙ ap (λ (list : List BugOp). show_text_of (snapshot_of list) there.people) ops ∙ sym there.is

-- a bug that is shown has no fault
pub shown_no_fault : (files : Files) (folder word text : List ℕ) (bug : HeadEntry) (authors : List Id) (fault : EntityFault) → ShowAnswers files folder word (Ok text)
    → FindsBug files folder word bug → AreLocal files folder authors → EntityFaultHolds bug_kind (objects_in files folder) bug.id (bug.name ∷ []) authors fault → ⊥
shown_no_fault files folder word text bug authors fault shown finds locals holds =
    let is : IsShown files folder bug text = subst (λ (b : HeadEntry). IsShown files folder b text) (one_bug files folder word shown.0 bug shown.1 finds) shown.2 in
    bug_no_fault files folder bug is.entity is.is_bug (record { authors = authors; locals = locals; fault = fault; holds = holds })

-- a bug that is shown is not missed
pub show_not_missed : (files : Files) (folder word text : List ℕ) (why : Missed) → ShowAnswers files folder word (Ok text) → ShowAnswers files folder word (Err (stop.Missed why)) → ⊥
show_not_missed files folder word text missed.NotFound shown h = finds_not_both (shown.0).id shown.1.found h
show_not_missed files folder word text (missed.Ambiguous least next) shown h = finds_not_many (shown.0).id least next shown.1.found h
show_not_missed files folder word text (missed.Damaged path) shown (inl h) = bug_not_damaged files folder word shown.0 shown.2.entity h.0 shown.1 shown.2.is_bug h.1 h.3
show_not_missed files folder word text (missed.Damaged path) shown (inr (bug, finds, entity, is, bad)) = no_bad_among files folder path shown.2.people shown.2.are_people bad

-- of people that are shown none is damaged, nor is the user file
pub shown_not_damaged : (files : Files) (folder text path : List ℕ) → UsersAnswers files folder (Ok text) → UsersAnswers files folder (Err (read.Damaged path)) → ⊥
shown_not_damaged files folder text path shown (inl bad) = no_bad_among files folder path shown.0 shown.1 bad
shown_not_damaged files folder text path shown (inr (people, are, bad)) = user_not_bad files folder path shown.2 shown.3 bad

-- a word has one text
pub one_show : (files : Files) (folder word one two : List ℕ) → ShowAnswers files folder word (Ok one) → ShowAnswers files folder word (Ok two) → one ≡ two
one_show files folder word one two first second =
    let bugs = one_bug files folder word second.0 first.0 second.1 first.1 in
    let other : IsShown files folder first.0 two = subst (λ (b : HeadEntry). IsShown files folder b two) bugs second.2 in
    let objects = objects_in files folder in
    let heads = (first.0).name ∷ [] in
    let ops = one_list bug_kind objects objects heads heads first.2.ops other.ops (λ placed. (λ x. x, λ x. x)) first.2.are other.are in
    let people = one_people files folder first.2.people other.people first.2.are_people other.are_people in
    first.2.is
    ∙ ap (λ (list : List BugOp). show_text_of (snapshot_of list) first.2.people) ops
    ∙ ap (λ (list : List Person). show_text_of (snapshot_of other.ops) list) people
    ∙ sym other.is

-- and a folder's people have one
pub one_users : (files : Files) (folder one two : List ℕ) → UsersAnswers files folder (Ok one) → UsersAnswers files folder (Ok two) → one ≡ two
one_users files folder one two first second =
    let people = one_people files folder first.0 second.0 first.1 second.1 in
    let users = one_user files folder first.2 second.2 first.3 second.3 in
    first.4 ∙ ap (λ (list : List Person). users_text_of list first.2) people ∙ ap (users_text_of second.0) users ∙ sym second.4

-- ---- in a sound folder

-- each identity's ref reads, and its head has a version
no_bad_person : (files : Files) (folder path : List ℕ) → IsSound folder files → HasBadPerson files folder path → ⊥
no_bad_person files folder path sound (id, first, at) = not_bad first.is_so
  where
    not_bad : IsBadPerson files folder id → ⊥
    not_bad (inl bad) = subst (IsSoundIdentity (objects_in files folder) id) bad (sound parts.Identities id first.is_id)
    not_bad (inr (head, has, fault, none)) =
        let chain : IsChain (objects_in files folder) id head = subst (IsSoundIdentity (objects_in files folder) id) has (sound parts.Identities id first.is_id) in
        let version = chain.each head (record { above = []; chain = refl; near = omega arith }) in
        no_fault_at (objects_in files folder) head version.0 fault version.1 none

-- so no bug is refused for damage
pub show_not_damaged : (files : Files) (folder word path : List ℕ) → IsSound folder files → ShowAnswers files folder word (Err (stop.Missed (missed.Damaged path))) → ⊥
show_not_damaged files folder word path sound (inl (id, found, at, wrong)) = no_bad_found folder files sound word id found wrong
show_not_damaged files folder word path sound (inr (bug, finds, entity, is, bad)) = no_bad_person files folder path sound bad

-- nor are the people
pub users_not_damaged : (files : Files) (folder path : List ℕ) → IsSound folder files → UsersAnswers files folder (Err (read.Damaged path)) → ⊥
users_not_damaged files folder path sound (inl bad) = no_bad_person files folder path sound bad
users_not_damaged files folder path sound (inr (people, are, bad)) = sound parts.User bad.1

-- ---- what is told first

-- a bug with which something is wrong is told, and no person
pub bug_told_first : (files : Files) (folder word path : List ℕ) (id : Id) → Finds files folder side.Bugs word (One id) → IsDamagedBug files folder id
    → ShowAnswers files folder word (Err (stop.Missed (missed.Damaged path))) → path ≡ joined folder (ref_place side.Bugs id)
bug_told_first files folder word path id found wrong (inl (other, has, at, damaged)) =
    at ∙ ap (λ (bug : Id). joined folder (ref_place side.Bugs bug)) (finds_the_same other id has found)
bug_told_first files folder word path id found wrong (inr (bug, finds, entity, is, person)) = absurd (bug_not_damaged files folder word bug entity id finds is found wrong)

-- where a person is damaged, one is told, and no user file
pub person_told_first : (files : Files) (folder path other : List ℕ) → HasBadPerson files folder other → UsersAnswers files folder (Err (read.Damaged path))
    → HasBadPerson files folder path
person_told_first files folder path other bad (inl told) = told
person_told_first files folder path other bad (inr (people, are, user)) = absurd (no_bad_among files folder other people are bad)
