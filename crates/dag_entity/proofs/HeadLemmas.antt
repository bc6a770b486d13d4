-- The nodes of heads, and their edit clocks.
use Rattle.std.proofs.Common.{◌≡◌, ◌≢◌, ◌⊎◌, inl, inr, ◌<◌, ◌≤◌, ℕ, List, [], ◌∷◌, length, get_or, Contains, Ok, Err, refl, sym, ◌∙◌, ap, subst, arith}
use Rattle.gb_text.specs.declared.decimal.TheConstants.{GREATEST_TIME}
use Rattle.gb_text.specs.declared.id.Name.{Name}
use Rattle.commit_walk.proofs.DistinctLemmas.{Contains-first, Contains-later, Contains-cons, Contains-one}
use Rattle.dag_graph.specs.Below.{IsAncestor}
use Rattle.dag_graph.specs.Nodes.{AreNodes, node_at}
use Rattle.dag_graph.specs.declared.node.Node.{Node}
use Rattle.dag_graph.proofs.NodeLemmas.{has_at, same_node}
use Rattle.dag_entity.specs.Heads.{AreApartIn, HasEdit, HaveRoom, HeadsAnswers, IsGreatestIn, LieApart, RoomAnswers}
use Rattle.dag_entity.specs.declared.fault.EntityFault.{EntityFault}
use Rattle.dag_entity.specs.declared.fault.EntityFault.TheVariants as fault

-- a list of one or two, by whether it has a second
pub one_head : (heads : List Name) (d : Name) → 1 ≤ length heads → length heads ≤ 1 → heads ≡ get_or heads 0 d ∷ []
one_head [] d some few = absurd (omega (arith, some))
one_head (h ∷ []) d some few = refl
one_head (h ∷ k ∷ rest) d some few = absurd (omega (arith, few))

pub two_heads : (heads : List Name) (d two : Name) → 1 < length heads → length heads ≤ 2 → two ≡ get_or heads 1 two → heads ≡ get_or heads 0 d ∷ two ∷ []
two_heads [] d two some few is = absurd (omega (arith, some))
two_heads (h ∷ []) d two some few is = absurd (omega (arith, some))
two_heads (h ∷ k ∷ []) d two some few is = ap (λ (n : Name). h ∷ n ∷ []) (sym is)
two_heads (h ∷ k ∷ l ∷ rest) d two some few is = absurd (omega (arith, few))

module _ (nodes : List Node) (are : AreNodes nodes) where
  -- the edit clock of a name is that of the node at its position
  edit_is : (place : ℕ) (name : Name) (edit : ℕ) → place < length nodes → (node_at nodes place).name ≡ name → HasEdit nodes name edit → edit ≡ (node_at nodes place).edit
  edit_is place name edit within named has =
      sym has.says ∙ ap (λ (n : Node). n.edit) (same_node nodes are.once has.node (node_at nodes place) has.at (has_at nodes place within) (has.is ∙ sym named))

  has_edit : (place : ℕ) (name : Name) → place < length nodes → (node_at nodes place).name ≡ name → HasEdit nodes name (node_at nodes place).edit
  has_edit place name within named = record { node = node_at nodes place; at = has_at nodes place within; is = named; says = refl }

  -- one head
  pub one_answers : (heads : List Name) (head : Name) (place : ℕ) → heads ≡ head ∷ [] → place < length nodes → (node_at nodes place).name ≡ head → HeadsAnswers nodes heads (Ok (node_at nodes place).edit)
  one_answers heads head place are_one within named = subst (λ (l : List Name). HeadsAnswers nodes l (Ok (node_at nodes place).edit)) (sym are_one) (
    record {
      head = head;
      among = Contains-first head [];
      has = has_edit place head within named;
      most = λ other clock among has. let e = edit_is place other clock within (named ∙ Contains-one head other among) has in omega (arith, e);
    },
    λ one two apart. absurd (omega (arith, ap length apart.are)),
  )

  module _ (heads : List Name) (one two : Name) (are_two : heads ≡ one ∷ two ∷ []) (i j : ℕ) (in_i : i < length nodes) (in_j : j < length nodes)
      (named_i : (node_at nodes i).name ≡ one) (named_j : (node_at nodes j).name ≡ two) where
    has_one : Contains heads one
    has_one = subst (λ (l : List Name). Contains l one) (sym are_two) (Contains-first one (two ∷ []))

    has_two : Contains heads two
    has_two = subst (λ (l : List Name). Contains l two) (sym are_two) (Contains-later one (two ∷ []) two (Contains-first two []))

    -- a head is the one or the other
    which : (name : Name) → Contains heads name → (one ≡ name) ⊎ (two ≡ name)
    which name c =
        elim (Contains-cons one (two ∷ []) name (subst (λ (l : List Name). Contains l name) are_two c)) [
          | inl e ↦ inl e
          | inr k ↦ inr (Contains-one two name k)
        ]

    -- its edit clock is that of the one node or the other
    clock_is : (name : Name) (clock : ℕ) → Contains heads name → HasEdit nodes name clock → (clock ≡ (node_at nodes i).edit) ⊎ (clock ≡ (node_at nodes j).edit)
    clock_is name clock c has =
        elim (which name c) [
          | inl e ↦ inl (edit_is i name clock in_i (named_i ∙ e) has)
          | inr e ↦ inr (edit_is j name clock in_j (named_j ∙ e) has)
        ]

    pub two_greatest : (edit : ℕ) → (edit ≡ (node_at nodes i).edit) ⊎ (edit ≡ (node_at nodes j).edit) → (node_at nodes i).edit ≤ edit → (node_at nodes j).edit ≤ edit → IsGreatestIn nodes heads edit
    two_greatest edit (inl e) le_i le_j = record {
      head = one;
      among = has_one;
      has = subst (HasEdit nodes one) (sym e) (has_edit i one in_i named_i);
      most = λ name clock c has. elim (clock_is name clock c has) [ inl s ↦ omega (arith, s, le_i) | inr s ↦ omega (arith, s, le_j) ];
    }
    two_greatest edit (inr e) le_i le_j = record {
      head = two;
      among = has_two;
      has = subst (HasEdit nodes two) (sym e) (has_edit j two in_j named_j);
      most = λ name clock c has. elim (clock_is name clock c has) [ inl s ↦ omega (arith, s, le_i) | inr s ↦ omega (arith, s, le_j) ];
    }

    -- there is room, as was found
    pub room_is : {u : Unit} → RoomAnswers nodes i j (Ok u) → HaveRoom nodes heads
    room_is room = record {
      few = room.0;
      free = λ name c has. elim (clock_is name GREATEST_TIME c has) [ inl s ↦ room.1 (sym s) | inr s ↦ room.2 (sym s) ];
    }

    -- heads that were found not to be apart need none
    pub no_room_is : (LieApart nodes (node_at nodes i).name (node_at nodes j).name → ⊥) → (first second : Name) → AreApartIn nodes heads first second → HaveRoom nodes heads
    no_room_is together first second apart = absurd (together (
      λ below. apart.one_apart (subst (λ (n : Name). IsAncestor nodes n second) first_is (subst (λ (n : Name). IsAncestor nodes (node_at nodes i).name n) second_is below)),
      λ below. apart.two_apart (subst (λ (n : Name). IsAncestor nodes n first) second_is (subst (λ (n : Name). IsAncestor nodes (node_at nodes j).name n) first_is below)),
    ))
      where
        first_is : (node_at nodes i).name ≡ first
        first_is = named_i ∙ ap (λ (l : List Name). get_or l 0 one) (sym are_two ∙ apart.are)

        second_is : (node_at nodes j).name ≡ second
        second_is = named_j ∙ ap (λ (l : List Name). get_or l 1 two) (sym are_two ∙ apart.are)

    -- heads that were found to be apart, without room
    are_apart_in : LieApart nodes (node_at nodes i).name (node_at nodes j).name → (first : Name) × (second : Name) × AreApartIn nodes heads first second
    are_apart_in apart = (
      (node_at nodes i).name,
      (node_at nodes j).name,
      record {
        are = are_two ∙ ap (λ (n : Name). n ∷ two ∷ []) (sym named_i) ∙ ap (λ (n : Name). (node_at nodes i).name ∷ n ∷ []) (sym named_j);
        one_apart = apart.0;
        two_apart = apart.1;
      },
    )

    full_is : (name : Name) → LieApart nodes (node_at nodes i).name (node_at nodes j).name
        → (((node_at nodes i).edit ≡ GREATEST_TIME) × (name ≡ (node_at nodes i).name))
        ⊎ (((node_at nodes i).edit ≢ GREATEST_TIME) × ((node_at nodes j).edit ≡ GREATEST_TIME) × (name ≡ (node_at nodes j).name))
        → HeadsAnswers nodes heads (Err (fault.ClockFull name))
    full_is name apart (inl full) = (
      subst (Contains heads) (sym (full.1 ∙ named_i)) has_one,
      subst (HasEdit nodes name) full.0 (has_edit i name in_i (sym full.1)),
      are_apart_in apart,
    )
    full_is name apart (inr full) = (
      subst (Contains heads) (sym (full.2 ∙ named_j)) has_two,
      subst (HasEdit nodes name) full.1 (has_edit j name in_j (sym full.2)),
      are_apart_in apart,
    )

    pub no_room_answers : (f : EntityFault) → LieApart nodes (node_at nodes i).name (node_at nodes j).name → RoomAnswers nodes i j (Err f) → HeadsAnswers nodes heads (Err f)
    no_room_answers (fault.TooLarge count) apart room = (room.0, room.1, are_apart_in apart)
    no_room_answers (fault.ClockFull name) apart room = full_is name apart room.1
    no_room_answers _ apart room = absurd room
