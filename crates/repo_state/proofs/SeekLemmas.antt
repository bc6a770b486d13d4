-- What is found of a comment, as one bug after another is read.
use Rattle.std.proofs.Common.{◌≡◌, ◌<◌, ◌+◌, ◌⊎◌, inl, inr, ℕ, IsTrue, List, [], ◌∷◌, ◌++◌, length, map, take, drop, get_or, Option, Some, None, Ok, Err, Contains, refl, sym, ◌∙◌, ap, subst, arith}
use Rattle.std.specs.List.{AllByRecursion}
use Rattle.std.specs.List.Sorted.{IsStrictlySortedBy}
use Rattle.std.specs.Cmp.Lexicographic.{slice_cmp}
use Rattle.std.specs.Ordering.{nat_cmp}
use Rattle.std.specs.declared.cmp.Ordering.TheVariants.{Less}
use Rattle.std.proofs.lemmas.List.Elements.{All-contains, All-from_recursion, Contains-append_cases, Contains-append_left, Contains-append_right, Contains-push, Contains-push_cases}
use Rattle.gb_text.specs.Digits.{IsId}
use Rattle.gb_text.specs.Prefix.{begins_with}
use Rattle.gb_text.specs.declared.id.Id.{Id}
use Rattle.gb_text.specs.declared.id.Name.{Name}
use Rattle.gb_store.specs.Files.{Files}
use Rattle.object_batch.proofs.ClashLemmas.{Contains-cons_cases, Contains-first, Contains-later}
use Rattle.ref_store.specs.Refs.{Bad, Head}
use Rattle.bug_ops.specs.Kind.{bug_kind}
use Rattle.bug_ops.specs.declared.op.BugOp.{BugOp}
use Rattle.dag_entity.specs.Entities.{ops_in}
use Rattle.dag_entity.specs.declared.entity.Entity.{Entity}
use Rattle.repo_state.specs.Bugs.{HasBugFault, IsBug, IsDamagedBug, ReadsBelow}
use Rattle.repo_state.specs.Comments.{AllSoughtAreWhole, FitsComment, IsSought, IsWholeBug, ReadsEachBug, ReadsSought, comment_digits, comment_ids, whole_comment_finder}
use Rattle.repo_state.specs.Finds.{FinderAnswers}
use Rattle.repo_state.specs.Seeking.{AddsBug, FitsAmong, HasEntity, IdAdded, IsSoughtAmong, ReadsAmong, ReadsIfSought, SeekAnswers, Tells, answer_of, entries_of, fitting_of, kept_entity}
use Rattle.repo_state.specs.Sides.{AreIds, IsBefore, IsFirst, head_at}
use Rattle.repo_state.specs.declared.comments.CommentEntry.{CommentEntry}
use Rattle.repo_state.specs.declared.fitting.Fitting.{Fitting}
use Rattle.repo_state.specs.declared.fitting.Fitting.TheVariants.{Nothing, One, Several}
use Rattle.repo_state.specs.declared.seeking.Sought.{Sought}
use Rattle.repo_state.specs.declared.side.HeadEntry.{HeadEntry}
use Rattle.repo_state.specs.declared.side.Side.TheVariants as side
use Rattle.repo_state.specs.declared.stop.ReadStop.{ReadStop}
use Rattle.repo_state.specs.declared.stop.ReadStop.TheVariants as stop
use Rattle.repo_state.proofs.BugLemmas.{bug_no_fault, one_entity}
use Rattle.repo_state.proofs.FittingLemmas.{tells_after, tells_same}
use Rattle.repo_state.proofs.ListingLemmas.{Contains-from_map, Contains-map, not_before_itself, not_both_before}
use Rattle.repo_state.proofs.OnceLemmas.{comments_apart, entries_apart, filter_apart}
use Rattle.repo_state.proofs.PeopleLemmas.{split_at}
use Rattle.repo_state.proofs.PrefixLemmas.{Contains-filter, Contains-from_filter, unmapped}

-- ---- ids that ascend

abbrev Rise : List Id → Type 0
Rise ids = IsStrictlySortedBy (λ (one two : Id). slice_cmp nat_cmp one.bytes two.bytes) ids

after_all : (id : Id) (ids : List Id) (other : Id) → AllByRecursion (λ (x : Id). slice_cmp nat_cmp id.bytes x.bytes ≡ Less) ids → Contains ids other → IsBefore id other
after_all id ids other all has =
    All-contains (λ (x : Id). slice_cmp nat_cmp id.bytes x.bytes ≡ Less) ids other (All-from_recursion (λ (x : Id). slice_cmp nat_cmp id.bytes x.bytes ≡ Less) ids all) has

-- those up to an id come before it, and those from it on do not
sooner : (ids : List Id) (id : Id) (rest : List Id) → Rise (ids ++ id ∷ rest) → (other : Id) → Contains ids other → IsBefore other id
unfolding IsStrictlySortedBy
sooner [] id rest rising other has = absurd (omega (arith, has.1))
sooner (x ∷ ids) id rest rising other has = elim (Contains-cons_cases x ids other has) [
  | inl same ↦ subst (λ (y : Id). IsBefore y id) same (after_all x (ids ++ id ∷ rest) id rising.0 (Contains-append_right ids (id ∷ rest) id (Contains-first id rest)))
  | inr later ↦ sooner ids id rest rising.1 other later
]

not_sooner : (ids : List Id) (id : Id) (rest : List Id) → Rise (ids ++ id ∷ rest) → (other : Id) → Contains (id ∷ rest) other → IsBefore other id → ⊥
unfolding IsStrictlySortedBy
not_sooner [] id rest rising other has before = elim (Contains-cons_cases id rest other has) [
  | inl same ↦ not_before_itself id.bytes (subst (λ (y : Id). IsBefore y id) (sym same) before)
  | inr later ↦ not_both_before id.bytes other.bytes (after_all id rest other rising.0 later) before
]
not_sooner (x ∷ ids) id rest rising other has before = not_sooner ids id rest rising.1 other has before

module _ (files : Files) (folder : List ℕ) (ids : List Id) (are : AreIds files folder side.Bugs ids) (k : ℕ) (d : Id) (within : k < length ids) where
  abbrev this : Id
  this = get_or ids k d

  rising : Rise (take k ids ++ this ∷ drop (k + 1) ids)
  rising = subst Rise (split_at ids k d within) (unmapped ids are.rising)

  -- an id comes once
  pub id_is_new : Contains (take k ids) this → ⊥
  id_is_new has = not_before_itself this.bytes (sooner (take k ids) this (drop (k + 1) ids) rising this has)

  -- those before it come sooner
  pub before_is_sooner : (other : Id) → Contains ids other → IsBefore other this → Contains (take k ids) other
  before_is_sooner other has before = elim (Contains-append_cases (take k ids) (this ∷ drop (k + 1) ids) other (subst (λ (l : List Id). Contains l other) (split_at ids k d within) has)) [
    | inl early ↦ early
    | inr late ↦ absurd (not_sooner (take k ids) this (drop (k + 1) ids) rising other late before)
  ]

  -- it is one of them
  pub id_is_among : Contains ids this
  id_is_among = subst (λ (l : List Id). Contains l this) (sym (split_at ids k d within)) (Contains-append_right (take k ids) (this ∷ drop (k + 1) ids) this (Contains-first this (drop (k + 1) ids)))

  pub id_is_id : IsId this
  id_is_id = ((are.members this).0 id_is_among).0

-- ---- one bug more

-- a bug's head is one
pub one_head : (files : Files) (folder : List ℕ) (one two : HeadEntry) → one.id ≡ two.id → head_at files folder side.Bugs one.id ≡ Head one.name → head_at files folder side.Bugs two.id ≡ Head two.name → one ≡ two
one_head files folder one two ids first second =
    let heads : Head one.name ≡ Head two.name = sym first ∙ ap (head_at files folder side.Bugs) ids ∙ second in
    let names : one.name ≡ two.name = cc (heads) in
    λ i. record { id = ids i; name = names i }

-- nothing is wrong with a bug that is whole
pub whole_not_damaged : (files : Files) (folder : List ℕ) (bug : HeadEntry) (entity : Entity BugOp) → IsWholeBug files folder bug entity → IsDamagedBug files folder bug.id → ⊥
whole_not_damaged files folder bug entity whole (inl bad) = let both : Head bug.name ≡ Bad = sym whole.head ∙ bad in cc (both)
whole_not_damaged files folder bug entity whole (inr (head, has, wrong)) =
    let same : bug ≡ record { id = bug.id; name = head } = one_head files folder bug (record { id = bug.id; name = head }) refl whole.head has in
    bug_no_fault files folder bug entity whole.is (subst (HasBugFault files folder) (sym same) wrong)

module _ (files : Files) (folder word : List ℕ) where
  -- before the first
  pub nothing_yet : IsSoughtAmong files folder word [] (record { fitting = Nothing; entity = None })
  nothing_yet = record {
    whole = λ id has. absurd (omega (arith, has.1));
    tells = λ c fits. let has = fits.1 in omega (arith, has.1);
    has = tt;
  }

  -- one that is not read
  pub passes : (ids : List Id) (id : Id) (sought : Sought) → IsSoughtAmong files folder word ids sought → (IsSought files folder word id → ⊥) → IsSoughtAmong files folder word (ids ++ id ∷ []) sought
  passes ids id sought was never = record {
    whole = λ other has. elim (Contains-push_cases ids id other has) [
      | inl early ↦ was.whole other early
      | inr same ↦ λ is. absurd (never (subst (IsSought files folder word) (sym same) is))
    ];
    tells = tells_same (FitsAmong files folder word ids) (FitsAmong files folder word (ids ++ id ∷ []))
        (λ c fits. (fits.0, Contains-append_left ids (id ∷ []) c.bug.id fits.1))
        (λ c fits. elim (Contains-push_cases ids id c.bug.id fits.1) [
          | inl early ↦ (fits.0, early)
          | inr same ↦ absurd (never (subst (IsSought files folder word) (sym same) fits.0.is_sought))
        ])
        sought.fitting was.tells;
    has = was.has;
  }

  module _ (ids : List Id) (bug : HeadEntry) (before after : Sought) (was : IsSoughtAmong files folder word ids before) (new : Contains ids bug.id → ⊥)
      (sought : IsSought files folder word bug.id) (head : head_at files folder side.Bugs bug.id ≡ Head bug.name) (adds : AddsBug files folder word bug before after) where
    abbrev made : List Id
    made = comment_ids (ops_in bug_kind adds.entity.packs)

    abbrev entries : List CommentEntry
    entries = fitting_of word (entries_of bug made)

    abbrev Early : CommentEntry → Type 0
    Early = FitsAmong files folder word ids

    abbrev Now : CommentEntry → Type 0
    Now = FitsAmong files folder word (ids ++ bug.id ∷ [])

    -- the comments of the bug that fit
    of_bug : (c : CommentEntry) → Contains entries c → (c.bug ≡ bug) × Contains made c.comment × IsTrue (begins_with word (comment_digits c))
    of_bug c has =
        let kept = Contains-from_filter (λ (x : CommentEntry). begins_with word (comment_digits x)) (entries_of bug made) c has in
        let from = Contains-from_map (λ (id : Id). record { bug = bug; comment = id }) made c kept.0 in (
          ap (λ (x : CommentEntry). x.bug) (sym from.2),
          subst (Contains made) (ap (λ (x : CommentEntry). x.comment) from.2) from.1,
          kept.1,
        )

    its_comment : (c : CommentEntry) → Contains entries c → FitsComment files folder word c
    its_comment c has =
        let is = of_bug c has in
        record {
          is_sought = subst (λ (b : HeadEntry). IsSought files folder word b.id) (sym is.0) sought;
          begins = is.2;
          entity = adds.entity;
          is = subst (λ (b : HeadEntry). IsWholeBug files folder b adds.entity) (sym is.0) (record { head = head; is = adds.is });
          has = is.1;
        }

    now_from : (c : CommentEntry) → Early c ⊎ Contains entries c → Now c
    now_from c (inl fits) = (fits.0, Contains-append_left ids (bug.id ∷ []) c.bug.id fits.1)
    now_from c (inr has) =
        (its_comment c has, subst (λ (b : HeadEntry). Contains (ids ++ bug.id ∷ []) b.id) (sym (of_bug c has).0) (Contains-push ids bug.id))

    now_to : (c : CommentEntry) → Now c → Early c ⊎ Contains entries c
    now_to c (fits, among) = elim (Contains-push_cases ids bug.id c.bug.id among) [
      | inl early ↦ inl (fits, early)
      | inr same ↦ (
          let bugs : c.bug ≡ bug = one_head files folder c.bug bug (sym same) fits.is.head head in
          let entities : fits.entity ≡ adds.entity = one_entity files folder bug fits.entity adds.entity (subst (λ (b : HeadEntry). IsBug files folder b fits.entity) bugs fits.is.is) adds.is in
          let has : Contains made c.comment = subst (λ (e : Entity BugOp). Contains (comment_ids (ops_in bug_kind e.packs)) c.comment) entities fits.has in
          let same_entry : record { bug = bug; comment = c.comment } ≡ c = λ i. record { bug = sym bugs i; comment = c.comment } in
          let listed : Contains (entries_of bug made) c = subst (Contains (entries_of bug made)) same_entry (Contains-map (λ (id : Id). record { bug = bug; comment = id }) made c.comment has) in
          inr (Contains-filter (λ (x : CommentEntry). begins_with word (comment_digits x)) (entries_of bug made) c listed fits.begins))
    ]

    -- none of them fitted before
    fresh : (c : CommentEntry) → Contains entries c → Early c → ⊥
    fresh c has fits = new (subst (λ (b : HeadEntry). Contains ids b.id) (of_bug c has).0 fits.1)

    tells_now : Tells Now adds.fitting
    tells_now =
        tells_same (λ (x : CommentEntry). Early x ⊎ Contains entries x) Now now_from now_to adds.fitting
        (tells_after Early before.fitting adds.fitting entries was.tells adds.fits
        (filter_apart (λ (x : CommentEntry). begins_with word (comment_digits x)) (entries_of bug made) (entries_apart bug made (comments_apart files folder bug adds.entity adds.is))) fresh)

    -- the entity of an only one is kept
    entity_kept : (f g : Fitting) (old : Option (Entity BugOp)) → Tells Early f → HasEntity files folder f old → Tells Now g → HasEntity files folder g (kept_entity f old adds.entity)
    entity_kept f Nothing old early has now = tt
    entity_kept f (Several first second) old early has now = tt
    entity_kept Nothing (One c id) old early has now = elim (now_to c now.0) [
      | inl fits ↦ absurd (early c fits)
      | inr listed ↦ (adds.entity, refl, subst (λ (b : HeadEntry). IsBug files folder b adds.entity) (sym (of_bug c listed).0) adds.is)
    ]
    entity_kept (One d first) (One c id) old early has now =
        let same : d ≡ c = now.2 d (now_from d (inl early.0)) in
        (has.0, has.1, subst (λ (x : CommentEntry). IsBug files folder x.bug has.0) same has.2)
    entity_kept (Several first second) (One c id) old early has now =
        absurd (early.differ (now.2 early.one (now_from early.one (inl early.so_one)) ∙ sym (now.2 early.two (now_from early.two (inl early.so_two)))))

    -- one that is read
    pub adds_bug : IsSoughtAmong files folder word (ids ++ bug.id ∷ []) after
    adds_bug = subst (IsSoughtAmong files folder word (ids ++ bug.id ∷ [])) (sym adds.kept) (record {
      whole = λ other has. elim (Contains-push_cases ids bug.id other has) [
        | inl early ↦ was.whole other early
        | inr same ↦ λ is. (bug, same, adds.entity, record { head = head; is = adds.is })
      ];
      tells = tells_now;
      has = entity_kept before.fitting adds.fitting before.entity was.tells was.has tells_now;
    })

  -- one more, read or not
  pub adds_id : (ids : List Id) (id : Id) (before after : Sought) → IsSoughtAmong files folder word ids before → (Contains ids id → ⊥) → IdAdded files folder word id before (Ok after)
      → IsSoughtAmong files folder word (ids ++ id ∷ []) after
  adds_id ids id before after was new (inl (never, same)) = subst (IsSoughtAmong files folder word (ids ++ id ∷ [])) (sym same) (passes ids id before was never)
  adds_id ids id before after was new (inr (bug, same, sought, head, adds)) =
      subst (λ (x : Id). IsSoughtAmong files folder word (ids ++ x ∷ []) after) same
      (adds_bug ids bug before after was (λ has. new (subst (Contains ids) same has)) (subst (IsSought files folder word) (sym same) sought)
      (subst (λ (x : Id). head_at files folder side.Bugs x ≡ Head bug.name) (sym same) head) adds)

  -- ---- the end

  module _ (ids : List Id) (are : AreIds files folder side.Bugs ids) where
    -- one that is damaged is the first
    pub stops_at_bad : (k : ℕ) (d : Id) → k < length ids → (before : Sought) → IsSoughtAmong files folder word (take k ids) before → (s : ReadStop)
        → IdAdded files folder word (get_or ids k d) before (Err s) → SeekAnswers files folder word ids (Err s)
    stops_at_bad k d within before was stop.Memory told = tt
    stops_at_bad k d within before was stop.Disk told = tt
    stops_at_bad k d within before was (stop.Damaged path) (at, sought, damaged) = (get_or ids k d, first, at)
      where
        not_before : (other : Id) → IsId other → IsSought files folder word other × IsDamagedBug files folder other → IsBefore other (get_or ids k d) → ⊥
        not_before other is so earlier =
            let has = before_is_sooner files folder ids are k d within other ((are.members other).1 (is, so.0.stands)) earlier in
            let whole = was.whole other has so.0 in
            whole_not_damaged files folder whole.0 whole.2 whole.3 (subst (IsDamagedBug files folder) (sym whole.1) so.1)

        first : IsFirst (λ one. IsSought files folder word one × IsDamagedBug files folder one) (get_or ids k d)
        first = record { is_id = sought.is_id; is_so = (sought, damaged); none_before = not_before }

    module _ (sought : Sought) (is : IsSoughtAmong files folder word ids sought) where
      every : (id : Id) → IsSought files folder word id → Contains ids id
      every id so = (are.members id).1 (so.is_id, so.stands)

      all_whole : AllSoughtAreWhole files folder word
      all_whole id so = is.whole id (every id so) so

      among : (c : CommentEntry) → FitsComment files folder word c → FitsAmong files folder word ids c
      among c fits = (fits, every c.bug.id fits.is_sought)

      -- what was found among all bugs is what the argument finds
      told : (f : Fitting) (entity : Option (Entity BugOp)) → Tells (FitsAmong files folder word ids) f → HasEntity files folder f entity
          → FinderAnswers (whole_comment_finder files folder word) (answer_of f entity)
      told Nothing entity none has = (all_whole, λ c fits. none c (among c fits))
      told (One c id) None one has = let none : None ≡ Some has.0 = has.1 in absurd (cc (none))
      told (One c id) (Some entity) one has =
          let same : Some entity ≡ Some has.0 = has.1 in
          let entities : has.0 ≡ entity = cc (same) in (
            record { all = all_whole; fits = one.0.0; no_other = λ other fits. one.2 other (among other fits) },
            subst (IsBug files folder c.bug) entities has.2,
          )
      told (Several first second) entity l has = (
        all_whole,
        record {
          one = l.one;
          two = l.two;
          differ = l.differ;
          fits_one = l.so_one.0;
          fits_two = l.so_two.0;
          is_first = l.is_first;
          is_second = l.is_second;
          ordered = l.ordered;
          above = λ other id fits is_id. l.above other id (among other fits) is_id;
        },
      )

      pub answers : FinderAnswers (whole_comment_finder files folder word) (answer_of sought.fitting sought.entity)
      answers = told sought.fitting sought.entity is.tells is.has

  -- ---- the reads

  pub reads_none : (ids : List Id) (n : ℕ) → ReadsAmong files folder word ids n n
  reads_none [] n = refl
  reads_none (id ∷ ids) n = (n, inl refl, reads_none ids n)

  pub reads_both : (xs ys : List Id) (a b c : ℕ) → ReadsAmong files folder word xs a b → ReadsAmong files folder word ys b c → ReadsAmong files folder word (xs ++ ys) a c
  reads_both [] ys a b c first second = subst (λ (n : ℕ). ReadsAmong files folder word ys n c) first second
  reads_both (x ∷ xs) ys a b c (mid, here, rest) second = (mid, here, reads_both xs ys mid b c rest second)

  -- one more
  pub reads_more : (xs : List Id) (x : Id) (a b c : ℕ) → ReadsAmong files folder word xs a b → ReadsIfSought files folder word x b c → ReadsAmong files folder word (xs ++ x ∷ []) a c
  reads_more xs x a b c first second = reads_both xs (x ∷ []) a b c first (c, second, refl)

  -- and no more
  pub reads_until : (ids : List Id) (k : ℕ) (d : Id) → k < length ids → (a b c : ℕ) → ReadsAmong files folder word (take k ids) a b → ReadsIfSought files folder word (get_or ids k d) b c
      → ReadsAmong files folder word ids a c
  reads_until ids k d within a b c first second =
      subst (λ (l : List Id). ReadsAmong files folder word l a c) (sym (split_at ids k d within))
      (reads_both (take k ids) (get_or ids k d ∷ drop (k + 1) ids) a b c first (c, second, reads_none (drop (k + 1) ids) c))

  -- the bugs that were read among some
  record AreRead (ids : List Id) (before after : ℕ) : Type 0 where
    bugs : List HeadEntry
    rising : IsStrictlySortedBy (slice_cmp nat_cmp) (map (λ (bug : HeadEntry). bug.id.bytes) bugs)
    each : (bug : HeadEntry) → Contains bugs bug → Contains ids bug.id × IsSought files folder word bug.id × (head_at files folder side.Bugs bug.id ≡ Head bug.name)
    reads : ReadsEachBug files folder bugs before after

  all_mapped : (P : List ℕ → Type 0) (bugs : List HeadEntry) → ((bug : HeadEntry) → Contains bugs bug → P bug.id.bytes) → AllByRecursion P (map (λ (bug : HeadEntry). bug.id.bytes) bugs)
  all_mapped P [] each = tt
  all_mapped P (bug ∷ bugs) each = (each bug (Contains-first bug bugs), all_mapped P bugs (λ other has. each other (Contains-later bug bugs other has)))

  read_among : (ids : List Id) → Rise ids → (before after : ℕ) → ReadsAmong files folder word ids before after → AreRead ids before after
  unfolding IsStrictlySortedBy
  read_among [] rising before after same = record { bugs = []; rising = tt; each = λ bug has. absurd (omega (arith, has.1)); reads = same }
  read_among (id ∷ ids) rising before after (mid, here, rest) = add (read_among ids rising.1 mid after rest) here
    where
      add : AreRead ids mid after → ReadsIfSought files folder word id before mid → AreRead (id ∷ ids) before after
      add later (inl same) = record {
        bugs = later.bugs;
        rising = later.rising;
        each = λ bug has. let is = later.each bug has in (Contains-later id ids bug.id is.0, is.1, is.2);
        reads = subst (λ (n : ℕ). ReadsEachBug files folder later.bugs n after) same later.reads;
      }
      add later (inr (bug, same, sought, head, reads)) = record {
        bugs = bug ∷ later.bugs;
        rising = (
          all_mapped (λ (bytes : List ℕ). slice_cmp nat_cmp bug.id.bytes bytes ≡ Less) later.bugs
              (λ other has. subst (λ (x : Id). IsBefore x other.id) (sym same) (after_all id ids other.id rising.0 (later.each other has).0)),
          later.rising,
        );
        each = λ other has. elim (Contains-cons_cases bug later.bugs other has) [
          | inl is ↦ subst (λ (b : HeadEntry). Contains (id ∷ ids) b.id × IsSought files folder word b.id × (head_at files folder side.Bugs b.id ≡ Head b.name)) is
              (subst (λ (x : Id). Contains (id ∷ ids) x × IsSought files folder word x × (head_at files folder side.Bugs x ≡ Head bug.name)) (sym same) (Contains-first id ids, sought, head))
          | inr after_it ↦ (let is = later.each other after_it in (Contains-later id ids other.id is.0, is.1, is.2))
        ];
        reads = (mid, reads, later.reads);
      }

  pub reads_sought : (ids : List Id) → AreIds files folder side.Bugs ids → (before after : ℕ) → ReadsAmong files folder word ids before after → ReadsSought files folder word before after
  reads_sought ids are before after among =
      let read = read_among ids (unmapped ids are.rising) before after among in
      (read.bugs, record { rising = read.rising; each = λ bug has. ((read.each bug has).1, (read.each bug has).2) }, read.reads)

  -- one that is read
  pub reads_at_head : (id : Id) (name : Name) (before mid after : ℕ) → IsSought files folder word id → head_at files folder side.Bugs id ≡ Head name → mid ≡ before
      → ReadsBelow files folder (record { id = id; name = name }) mid after → ReadsIfSought files folder word id before after
  reads_at_head id name before mid after sought head same below =
      inr (record { id = id; name = name }, refl, sought, head, subst (λ (n : ℕ). ReadsBelow files folder (record { id = id; name = name }) n after) same below)

  -- where nothing was read
  pub reads_nothing : (before after : ℕ) → after ≡ before → ReadsSought files folder word before after
  unfolding IsStrictlySortedBy
  reads_nothing before after same = ([], record { rising = tt; each = λ bug has. absurd (omega (arith, has.1)) }, same)
