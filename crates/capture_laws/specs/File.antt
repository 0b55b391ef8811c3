-- A file as its blocks.
use Rattle.std.specs.Prelude.{◌≡◌, ℕ, List, [], ◌∷◌, ◌++◌, codes}
use Rattle.capture_laws.specs.declared.shapes.Captured.{Captured}
use Rattle.capture_laws.specs.declared.shapes.Port.{Port}
use Rattle.capture_laws.specs.Blocks.{IsBlock, interface_body, packet_body, section_body}
use Rattle.capture_laws.specs.Frames.{frame_of}
use Rattle.capture_laws.specs.Interfaces.{interface_of, port_name}

-- the kind of a block, and its body
pub record Block : Type 0 where
  pub kind : ℕ
  pub body : List ℕ

-- bytes are these blocks, one behind the other
abbrev pub AreBlocks : List Block → List ℕ → Type 0
AreBlocks [] bytes = bytes ≡ []
AreBlocks (b ∷ blocks) bytes = (front rest : List ℕ) × IsBlock b.kind b.body front × (bytes ≡ front ++ rest) × AreBlocks blocks rest

abbrev pub interface : List ℕ → Block
interface name = record { kind = 1; body = interface_body name }

unfoldable pub packets_in : List Port → List Captured → List Block
packets_in ports [] = []
packets_in ports (p ∷ packets) = record { kind = 6; body = packet_body (interface_of ports p.way) p.time p.comment (frame_of p.way p.payload) } ∷ packets_in ports packets

unfoldable pub interfaces_in : List Port → List Block → List Block
interfaces_in [] blocks = blocks
interfaces_in (p ∷ ports) blocks = interface (port_name p) ∷ interfaces_in ports blocks

-- a section, its interfaces, and its packets
abbrev pub blocks_of : List Port → List Captured → List Block
blocks_of ports packets =
    record { kind = 0x0A0D0D0A; body = section_body } ∷ interface (codes "control") ∷ interface (codes "controllers") ∷ interfaces_in ports (packets_in ports packets)
