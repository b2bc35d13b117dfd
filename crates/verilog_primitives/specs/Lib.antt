pub mod UdpActions
pub mod UdpGrammar
pub mod UdpMoves
pub mod UdpToCome
pub mod UdpBounds
