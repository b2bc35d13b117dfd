pub mod UdpSimple
pub mod UdpFollows
