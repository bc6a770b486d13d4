-- How faults of entities and of identities are printed: a letter and a number, and then each of their fields, which are names, ids and decimals.
use Rattle.std.specs.Prelude.{ℕ, List, ◌++◌, codes, decimal}
use Rattle.hex.specs.Hex.{encode_lower}
use Rattle.gb_text.specs.declared.id.Id.{Id}
use Rattle.gb_text.specs.declared.id.Name.{Name}
use Rattle.op_kind.specs.declared.fault.OpFault.{OpFault}
use Rattle.op_kind.specs.declared.fault.OpFault.TheVariants as op
use Rattle.dag_entity.specs.declared.fault.EntityFault.{EntityFault}
use Rattle.dag_entity.specs.declared.fault.EntityFault.TheVariants as entity
use Rattle.identity.specs.declared.fault.IdentityFault.{IdentityFault}
use Rattle.identity.specs.declared.fault.IdentityFault.TheVariants as identity

-- a space, and the digits of a name or of an id
abbrev pub with_name : Name → List ℕ
with_name name = codes " " ++ encode_lower name.bytes

abbrev pub with_id : Id → List ℕ
with_id id = codes " " ++ encode_lower id.bytes

-- what is wrong with an operation
abbrev pub op_fault_text : OpFault → List ℕ
op_fault_text op.Memory = codes "memory"
op_fault_text op.NotObject = codes "not-object"
op_fault_text op.NoType = codes "no-type"
op_fault_text (op.UnknownType number) = codes "unknown-type " ++ decimal number
op_fault_text op.BadTime = codes "bad-time"
op_fault_text op.BadNonce = codes "bad-nonce"
op_fault_text (op.BadMember number) = codes "bad-member " ++ decimal number
op_fault_text (op.BadText number) = codes "bad-text " ++ decimal number

-- what is wrong with an entity; want of memory and a fault of the store are never told
abbrev pub entity_fault_text : EntityFault → List ℕ
entity_fault_text entity.Memory = codes "memory"
entity_fault_text entity.Disk = codes "disk"
entity_fault_text (entity.Missing name) = codes "E1" ++ with_name name
entity_fault_text (entity.Damaged name) = codes "E2" ++ with_name name
entity_fault_text (entity.NotCommit name) = codes "E3" ++ with_name name
entity_fault_text (entity.BadTree name) = codes "E4" ++ with_name name
entity_fault_text (entity.UnknownVersion name number) = codes "E5" ++ with_name name ++ codes " " ++ decimal number
entity_fault_text (entity.NoOps name) = codes "E6" ++ with_name name
entity_fault_text (entity.BadClock name) = codes "E7" ++ with_name name
entity_fault_text (entity.BadPack name) = codes "E8" ++ with_name name
entity_fault_text (entity.BadOperation name place f) = codes "E9" ++ with_name name ++ codes " " ++ decimal place ++ codes " " ++ op_fault_text f
entity_fault_text (entity.SecondRoot name) = codes "E10" ++ with_name name
entity_fault_text (entity.ClockOrder high low) = codes "E11" ++ with_name high ++ with_name low
entity_fault_text (entity.ClockJump high low) = codes "E12" ++ with_name high ++ with_name low
entity_fault_text (entity.MergeHasOperations name) = codes "E13" ++ with_name name
entity_fault_text (entity.NoCreateClock name) = codes "E14" ++ with_name name
entity_fault_text (entity.RepeatedOperation id) = codes "E15" ++ with_id id
entity_fault_text (entity.WrongId id) = codes "E16" ++ with_id id
entity_fault_text entity.FirstNotCreate = codes "E17"
entity_fault_text (entity.SecondCreate id) = codes "E18" ++ with_id id
entity_fault_text (entity.AuthorUnknown id) = codes "E19" ++ with_id id
entity_fault_text (entity.TooLarge number) = codes "E20 " ++ decimal number
entity_fault_text (entity.ClockFull name) = codes "E21" ++ with_name name

-- what is wrong with the chain of an identity; want of memory and a fault of the store are never told
abbrev pub identity_fault_text : IdentityFault → List ℕ
identity_fault_text identity.Memory = codes "memory"
identity_fault_text identity.Disk = codes "disk"
identity_fault_text (identity.Missing name) = codes "I1" ++ with_name name
identity_fault_text (identity.Damaged name) = codes "I2" ++ with_name name
identity_fault_text (identity.NotCommit name) = codes "I3" ++ with_name name
identity_fault_text (identity.BadVersion name) = codes "I4" ++ with_name name
identity_fault_text (identity.KeysPresent name) = codes "I5" ++ with_name name
identity_fault_text (identity.NotLinear name) = codes "I6" ++ with_name name
identity_fault_text (identity.WrongId id) = codes "I7" ++ with_id id
identity_fault_text (identity.TooLarge number) = codes "I8 " ++ decimal number
